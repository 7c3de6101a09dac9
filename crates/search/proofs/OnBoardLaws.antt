-- A call over the board, by each of its ways: what is asked for on the way, and what it ends with. The ends themselves are those of
-- CallLaws; here the board and the trail go with them.
--
--   back_asks, went_clash, went_model     a clash; all variables are set
--   closed_falls, closed_few, closed_below     after closing
--   Turn, turns_left, turns_less, turn_begins, turn_falls, turn_asks, turn_again, turn_went     the tries of the lowest unset variable
--   tried_stopped, literal_asks, set_falls, go_over, try_asks, tried_back     a try
--
-- Assumes nothing.
use mathlib.Core.Path.{◌≡◌, refl, ◌∙◌, ap}
use mathlib.Core.Logic.{◌≢◌}
use mathlib.Core.Bool.{Bool, true, false}
use mathlib.Core.List.{List}
use mathlib.Core.Option.{none}
use Prim.Native.Nat.{ℕ, zero, suc, pred, ◌≤◌, ◌<◌}
use native.Mathlib.Omega.{arith}
use lib.IntN.{ℤ}
use lib.ListN.{length, set}
use Rattle.rules.specs.declared.Outcome.{Outcome}
use Rattle.rules.specs.declared.Outcome.TheVariants.{Model, NoModel, Stopped}
use Rattle.rules.specs.declared.Var.{Var}
use Rattle.rules.specs.Numbers.{max_vars}
use Rattle.rules.specs.Meaning.{Clause, Values}
use Rattle.rules.specs.Closing.{closed, closing, unsets}
use Rattle.rules.specs.Run.{literal_at}
use Rattle.rules.specs.Search.{lowest_unset}
use Rattle.rules.proofs.ListLaws.{apart}
use Rattle.rules.proofs.ClosingLaws.{Settled, closing_ends}
use Rattle.formula.specs.Literals.{byte_of}
use Rattle.formula.specs.Starts.{clauses_with, call_clauses}
use Rattle.board.specs.declared.close.Closing.{Closing}
use Rattle.board.specs.declared.close.Closing.TheVariants.{Clash, Closed}
use Rattle.board.specs.Boards.{Shows, Settable, SetAsked, SetDone, trail_len}
use Rattle.board.specs.Trails.{Leads, UndoAsked}
use Rattle.board.specs.Closings.{closed_of, CloseDone}
use Rattle.board.proofs.TrailLaws.{leads_refl, leads_trans, leads_set}
use Rattle.std.specs.Prelude.{Some, None}
use Rattle.search.specs.declared.meter.Meter.{Meter}
use Rattle.search.specs.declared.call.CallEnd.{CallEnd}
use Rattle.search.specs.Choices.{choice_of}
use Rattle.search.specs.Meters.{asked_of}
use Rattle.search.specs.Boards.{SetBelow, TakenBack, goes_again, GoOver, WentOn, TryBegins, Tried}
use Rattle.search.proofs.EndLaws.{undone, none_not_model}
use Rattle.search.proofs.CallLaws.{ended, Chosen, chosen, ends_clash, ends_model, ends_first, ends_second, falls_set, ends_stopped, ends_back}
use Rattle.search.proofs.BoardLaws.{base_of, back_values, back_leads, set_below_lowest, set_below_mono, set_below_set, assign_literal}
use Rattle.search.proofs.BoardLaws.{literal_up_to, literal_unset}

-- ---- going on

-- which value is tried in a turn of the loop: false, from where closing has led; then true, if that found nothing
pub data Turn (es : List ℤ) (con : Clause) (lists holders marks : List ℕ) (vs1 : Values) (keys1 hot1 trail1 : List ℕ) (total : ℕ) (m : Meter) (v : ℕ)
    (us : Values) (keys hot trail : List ℕ) (rest : Meter) (x : Bool) : Type 0 where
  first : x ≡ false → rest ≡ m → us ≡ vs1 → keys ≡ keys1 → hot ≡ hot1 → trail ≡ trail1
      → Turn es con lists holders marks vs1 keys1 hot1 trail1 total m v us keys hot trail rest x
  second : (f : CallEnd) → x ≡ true → f.outcome ≡ NoModel → rest ≡ f.meter
      → Tried es con lists holders marks vs1 trail1 total m v false f us keys hot trail
      → Turn es con lists holders marks vs1 keys1 hot1 trail1 total m v us keys hot trail rest x

-- how many values are left behind this one
abbrev pub turns_left : Bool → ℕ
turns_left true = 0
turns_left false = 1

again_none : (o : Outcome) (x : Bool) → goes_again o x ≡ true → o ≡ NoModel
again_none Model x h = apart cc
again_none NoModel x h = refl
again_none Stopped x h = apart cc

again_not_true : (o : Outcome) → goes_again o true ≢ true
again_not_true Model h = apart cc
again_not_true NoModel h = apart cc
again_not_true Stopped h = apart cc

not_again : (o : Outcome) → goes_again o false ≡ false → o ≢ NoModel
not_again Model h e = apart cc
not_again NoModel h e = apart cc
not_again Stopped h e = apart cc

pub turns_less : (o : Outcome) (x : Bool) → goes_again o x ≡ true → turns_left true < turns_left x
turns_less o true h = absurd (again_not_true o h)
turns_less o false h = omega arith

module _ {es : List ℤ} {starts : List ℕ} {con : Clause} {lists holders marks : List ℕ} {vs : Values} {keys hot trail : List ℕ} {total from : ℕ} (m : Meter)
    (g : GoOver es starts con lists holders marks vs keys hot trail total from)
    {r : Closing} {vs1 : Values} {keys1 hot1 trail1 : List ℕ} (d : CloseDone es con lists holders marks vs trail total r vs1 keys1 hot1 trail1) where
  abbrev F : List Clause
  F = call_clauses es con total

  closing_is : {q : Closing} → r ≡ q → closing F vs ≡ closed_of q vs1
  closing_is e = d.end_is ∙ ap (λ (x : Closing). closed_of x vs1) e

  pub back_asks : UndoAsked lists holders marks vs1 keys1 hot1 trail1 (trail_len trail)
  back_asks = record { F = clauses_with es con; shows = d.shows; base = vs; trail_is = base_of d.leads }

  pub went_clash : {n : ℕ} → r ≡ Clash n → {vs2 : Values} {keys2 hot2 trail2 : List ℕ} → TakenBack lists holders marks vs1 keys1 hot1 trail1
      (trail_len trail) NoModel vs2 keys2 hot2 trail2
      → WentOn es con lists holders marks vs trail total m (ended NoModel m) vs2 keys2 hot2 trail2
  went_clash e {vs2} b =
      record {
        calls = ends_clash m F vs vs2 (closing_is e) (back_values d.leads b);
        shows = b.shows (clauses_with es con) d.shows;
        leads = back_leads d.leads b;
      }

  module _ {n : ℕ} (e : r ≡ Closed n) where
    closed_is : closing F vs ≡ closed vs1
    closed_is = closing_is e

    pub went_model : lowest_unset vs1 ≡ none → WentOn es con lists holders marks vs trail total m (ended Model m) vs1 keys1 hot1 trail1
    went_model l = record { calls = ends_model m F vs vs1 closed_is l; shows = d.shows; leads = d.leads }

    settled : Settled F vs vs1
    settled = rw closed_is at (closing_ends F vs)

    pub closed_falls : unsets vs1 ≤ unsets vs
    closed_falls = settled.fewer

    pub closed_few : length vs1 ≤ max_vars
    closed_few = omega (arith, settled.len, g.board.shows.small.vars_fit)

    pub closed_below : SetBelow from vs1
    closed_below = set_below_mono g.below settled.ext settled.len

    module _ (v : Var) (c : choice_of (lowest_unset vs1) ≡ Some v) where
      choice : Chosen vs1 v.0
      choice = chosen vs1 v c

      -- a try of it, from the values that closing left
      try_begins : {us : Values} {keysA hotA trailA : List ℕ} → us ≡ vs1 → Shows (clauses_with es con) lists holders marks us keysA hotA trailA
          → TryBegins es starts con lists holders marks us keysA hotA trailA total v.0
      try_begins {us} {keysA} {hotA} {trailA} q s =
          record {
            board = record { starts_are = g.board.starts_are; total_most = g.board.total_most; shows = s };
            variable = rw q choice.variable;
            unset = rw q choice.unset;
            below = rw q (set_below_lowest choice.lowest (lowest_in v.0 choice.variable.some choice.variable.most));
          }
        where
          lowest_in : (v : ℕ) → 1 ≤ v → v ≤ length vs1 → pred v < length vs1
          lowest_in zero h k = absurd (omega arith)
          lowest_in (suc v) h k = omega arith

      module _ {first : CallEnd} {us : Values} {keysA hotA trailA : List ℕ}
          (w : Tried es con lists holders marks vs1 trail1 total m v.0 false first us keysA hotA trailA) where
        first_leads : Leads trail vs trailA us
        first_leads = leads_trans d.leads w.leads

        went_first : first.outcome ≢ NoModel → {vs2 : Values} {keys2 hot2 trail2 : List ℕ}
            → TakenBack lists holders marks us keysA hotA trailA (trail_len trail) first.outcome vs2 keys2 hot2 trail2
            → WentOn es con lists holders marks vs trail total m first vs2 keys2 hot2 trail2
        went_first h {vs2} b =
            record {
              calls = ends_first m F vs vs1 (pred v.0) closed_is choice.lowest first us w.tries h vs2 (back_values first_leads b);
              shows = b.shows (clauses_with es con) w.shows;
              leads = back_leads first_leads b;
            }

        module _ (h : first.outcome ≡ NoModel) where
          first_undone : us ≡ vs1
          first_undone = undone w.tries (none_not_model h)

          module _ {second : CallEnd} {ds : Values} {keysB hotB trailB : List ℕ}
              (w2 : Tried es con lists holders marks us trailA total first.meter v.0 true second ds keysB hotB trailB) where
            second_leads : Leads trail vs trailB ds
            second_leads = leads_trans first_leads w2.leads

            went_second : {vs2 : Values} {keys2 hot2 trail2 : List ℕ}
                → TakenBack lists holders marks ds keysB hotB trailB (trail_len trail) second.outcome vs2 keys2 hot2 trail2
                → WentOn es con lists holders marks vs trail total m second vs2 keys2 hot2 trail2
            went_second {vs2} b =
                record {
                  calls = ends_second m F vs vs1 (pred v.0) closed_is choice.lowest first us w.tries h second ds vs2 w2.tries
                      (back_values second_leads b);
                  shows = b.shows (clauses_with es con) w2.shows;
                  leads = back_leads second_leads b;
                }

      -- a turn of the loop over both values
      module _ {us : Values} {keysA hotA trailA : List ℕ} {rest : Meter} {x : Bool}
          (t : Turn es con lists holders marks vs1 keys1 hot1 trail1 total m v.0 us keysA hotA trailA rest x) where
        turn_same : us ≡ vs1
        turn_same = go t
          where
            go : Turn es con lists holders marks vs1 keys1 hot1 trail1 total m v.0 us keysA hotA trailA rest x → us ≡ vs1
            go (first a b q k h l) = q
            go (second f a h b w) = first_undone w h

        turn_shows : Shows (clauses_with es con) lists holders marks us keysA hotA trailA
        turn_shows = go t
          where
            go : Turn es con lists holders marks vs1 keys1 hot1 trail1 total m v.0 us keysA hotA trailA rest x
                → Shows (clauses_with es con) lists holders marks us keysA hotA trailA
            go (first a b q k h l) = rw (q, k, h, l) d.shows
            go (second f a h b w) = w.shows

        turn_leads : Leads trail vs trailA us
        turn_leads = go t
          where
            go : Turn es con lists holders marks vs1 keys1 hot1 trail1 total m v.0 us keysA hotA trailA rest x → Leads trail vs trailA us
            go (first a b q k h l) = rw (q, l) d.leads
            go (second f a h b w) = first_leads w

        pub turn_begins : TryBegins es starts con lists holders marks us keysA hotA trailA total v.0
        turn_begins = try_begins turn_same turn_shows

        pub turn_falls : unsets us ≤ unsets vs
        turn_falls = rw turn_same closed_falls

        module _ {end : CallEnd} {ds : Values} {keysB hotB trailB : List ℕ}
            (w2 : Tried es con lists holders marks us trailA total rest v.0 x end ds keysB hotB trailB) where
          last_leads : Leads trail vs trailB ds
          last_leads = leads_trans turn_leads w2.leads

          pub turn_asks : UndoAsked lists holders marks ds keysB hotB trailB (trail_len trail)
          turn_asks = record { F = clauses_with es con; shows = w2.shows; base = vs; trail_is = base_of last_leads }

          pub turn_again : goes_again end.outcome x ≡ true
              → Turn es con lists holders marks vs1 keys1 hot1 trail1 total m v.0 ds keysB hotB trailB end.meter true
          turn_again h = go t
            where
              go : Turn es con lists holders marks vs1 keys1 hot1 trail1 total m v.0 us keysA hotA trailA rest x
                  → Turn es con lists holders marks vs1 keys1 hot1 trail1 total m v.0 ds keysB hotB trailB end.meter true
              go (first a b q k g l) = second end refl (again_none end.outcome x h) refl (rw (a, b, q, l) at w2)
              go (second f a g b w) = absurd (again_not_true end.outcome (rw a at h))

          pub turn_went : goes_again end.outcome x ≡ false → {vs2 : Values} {keys2 hot2 trail2 : List ℕ}
              → TakenBack lists holders marks ds keysB hotB trailB (trail_len trail) end.outcome vs2 keys2 hot2 trail2
              → WentOn es con lists holders marks vs trail total m end vs2 keys2 hot2 trail2
          turn_went h {vs2} {keys2} {hot2} {trail2} k = go t
            where
              go : Turn es con lists holders marks vs1 keys1 hot1 trail1 total m v.0 us keysA hotA trailA rest x
                  → WentOn es con lists holders marks vs trail total m end vs2 keys2 hot2 trail2
              go (first a b q e g l) = went_first (rw (a, b, q, l) at w2) (not_again end.outcome (rw a at h)) k
              go (second f a g b w) = went_second w g (rw (a, b) at w2) k

-- ---- trying

module _ {es : List ℤ} {starts : List ℕ} {con : Clause} {lists holders marks : List ℕ} {vs : Values} {keys hot trail : List ℕ} {total v : ℕ}
    (m : Meter) (x : Bool)
    (a : TryBegins es starts con lists holders marks vs keys hot trail total v) where
  pub tried_stopped : asked_of m ≡ None → Tried es con lists holders marks vs trail total m v x (ended Stopped m) vs keys hot trail
  tried_stopped e =
      record {
        tries = ends_stopped m (call_clauses es con total) vs (pred v) (byte_of x) e;
        shows = a.board.shows;
        leads = leads_refl;
      }

  settable : Settable (clauses_with es con) lists holders marks vs keys hot trail (literal_at (pred v) (byte_of x))
  settable =
      record { shows = a.board.shows; literal = literal_up_to x a.variable; unset = literal_unset x vs (pred v) a.unset }

  pub literal_asks : SetAsked lists holders marks vs keys hot trail (literal_at (pred v) (byte_of x))
  literal_asks = record { F = clauses_with es con; can = settable }

  module _ {vs1 : Values} {keys1 hot1 trail1 : List ℕ}
      (s : SetDone lists holders marks vs keys hot trail (literal_at (pred v) (byte_of x)) vs1 keys1 hot1 trail1) where
    set_is : vs1 ≡ set vs (pred v) (byte_of x)
    set_is = s.values_are ∙ assign_literal x vs (pred v)

    set_leads : Leads trail vs trail1 vs1
    set_leads = leads_set settable s.values_are s.trail_is

    pub set_falls : unsets vs1 < unsets vs
    set_falls = rw set_is (falls_set vs (pred v) x a.unset)

    pub go_over : GoOver es starts con lists holders marks vs1 keys1 hot1 trail1 total v
    go_over =
        record {
          board = record { starts_are = a.board.starts_are; total_most = a.board.total_most; shows = s.shows (clauses_with es con) a.board.shows };
          below = set_below_set x a.variable a.below set_is;
        }

    module _ {left : Meter} (e : asked_of m ≡ Some left) {r : CallEnd} {us : Values} {keys2 hot2 trail2 : List ℕ}
        (w : WentOn es con lists holders marks vs1 trail1 total left r us keys2 hot2 trail2) where
      went_leads : Leads trail vs trail2 us
      went_leads = leads_trans set_leads w.leads

      pub try_asks : UndoAsked lists holders marks us keys2 hot2 trail2 (trail_len trail)
      try_asks = record { F = clauses_with es con; shows = w.shows; base = vs; trail_is = base_of went_leads }

      pub tried_back : {vs3 : Values} {keys3 hot3 trail3 : List ℕ}
          → TakenBack lists holders marks us keys2 hot2 trail2 (trail_len trail) r.outcome vs3 keys3 hot3 trail3
          → Tried es con lists holders marks vs trail total m v x r vs3 keys3 hot3 trail3
      tried_back {vs3} b =
          record {
            tries = ends_back m (call_clauses es con total) vs (pred v) (byte_of x) left e r us (rw set_is at w.calls) vs3 (back_values went_leads b);
            shows = b.shows (clauses_with es con) w.shows;
            leads = back_leads went_leads b;
          }
