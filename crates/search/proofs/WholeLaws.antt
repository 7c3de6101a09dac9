-- A whole call: the board is begun, shows the values at the start, and has the constraint; then the call goes over it.
--
--   kept_length                               a board that is kept shows a value for each variable
--   call_undoes, call_shows, call_renews, call_goes      what each step requires
--   call_keeps, call_done                     what the call ends with, and leaves
--   call_blank                                a call from no value
--   begin_room                                buffers with room for as much as there may be
--   formula_clauses                           the clauses of a call without a constraint
--   close_goes, close_length, close_ends      a closing
--
-- Assumes nothing.
use mathlib.Core.Path.{◌≡◌, refl, sym, ◌∙◌, ap}
use mathlib.Core.Logic.{◌≢◌}
use mathlib.Core.List.{List, [], ◌∷◌}
use Prim.Native.Nat.{ℕ, zero, suc, ◌-◌, ◌*◌, ◌≤◌, zero-le}
use native.Mathlib.Omega.{arith}
use lib.IntN.{ℤ, negsuc}
use lib.ListN.{get_or, length, replicate, length-map, length-replicate, length-set}
use Rattle.rules.specs.Meaning.{Clause, Values, value_at, clauses}
use Rattle.rules.specs.Run.{blank}
use Rattle.formula.specs.Starts.{clauses_with, call_clauses}
use Rattle.formula.specs.Formula.{Formula}
use Rattle.formula.proofs.ClauseLaws.{length_starts, call_clauses_formula}
use Rattle.board.specs.declared.close.Closing.{Closing}
use Rattle.board.specs.Closings.{BoardOver, CloseDone}
use Rattle.board.specs.Boards.{Shows}
use Rattle.board.specs.Keys.{key_of}
use Rattle.board.specs.Holders.{Indexed}
use Rattle.board.specs.Constraints.{RenewAsked, Renewed}
use Rattle.board.specs.Shown.{ShowAsked, Shown}
use Rattle.board.specs.Trails.{Way, UndoAsked, Undone}
use Rattle.board.specs.Trails.Way.{start, more}
use Rattle.board.specs.Begins.{BeginAsked, Begun}
use Rattle.board.proofs.BeginLaws.{call_shows as shows_new}
use Rattle.board.proofs.ConstraintLaws.{blank_at}
use Rattle.search.specs.declared.meter.Meter.{Meter}
use Rattle.search.specs.declared.call.CallEnd.{CallEnd}
use Rattle.search.specs.Calls.{CallOver, Calls}
use Rattle.search.specs.Boards.{GoOver, WentOn}
use Rattle.search.specs.Rooms.{BoardKept}
use Rattle.search.specs.Wholes.{CallFrom, CallIn, CalledIn, ClosesBy}

-- where no variable has a value, every value is one that may be shown
agrees_blank : (vs : Values) (i : ℕ) → value_at (replicate (length vs) 0) i ≢ 0 → value_at vs i ≡ value_at (replicate (length vs) 0) i
agrees_blank [] i n = refl
agrees_blank (b ∷ vs) zero n = absurd (n refl)
agrees_blank (b ∷ vs) (suc i) n = agrees_blank vs i n

-- ---- a call over the board in the room

same_call : (es : List ℤ) (con : Clause) (total : ℕ) {us vs : Values} (m : Meter) {r : CallEnd} {bs after : Values} → us ≡ vs → after ≡ bs
    → Calls es con total us m r bs → Calls es con total vs m r after
same_call es con total m q f w = rw (← q, f) w

-- there is a mark for each literal
marks_room : {F : List Clause} {lists holders marks : List ℕ} {vs : Values} {keys hot trail : List ℕ} → Shows F lists holders marks vs keys hot trail
    → 2 * length vs ≤ length marks
marks_room {F} {lists} {holders} {marks} {vs} w = go (length vs) w.index
  where
    go : (n : ℕ) → Indexed n F lists holders marks → 2 * n ≤ length marks
    go zero x = omega arith
    go (suc k) x = omega (arith, (x.held (negsuc k) (record { some = omega arith; most = omega arith })).mark_room)

-- the trail leads to as many values as it comes from
way_length : {base : Values} {trail : List ℕ} {to len : ℕ} {vs : Values} → Way base trail to len vs → length vs ≡ length base
way_length (start e q) = ap length q
way_length (more k us e b u s q t) = ap length q ∙ length-set us _ _ ∙ way_length t

pub kept_length : {n : ℕ} {es : List ℤ} {lists holders marks : List ℕ} {shown : Values} {keys hot trail : List ℕ}
    → BoardKept n es lists holders marks shown keys hot trail → length shown ≡ n
kept_length {n} k = way_length k.trail_is ∙ length-replicate {A = ℕ} n 0

module _ {es : List ℤ} {starts : List ℕ} {con : Clause} {lists holders marks : List ℕ} {shown : Values} {keys hot trail : List ℕ}
    {total : ℕ} {vs : Values} (a : CallIn es starts con lists holders marks shown keys hot trail total vs) where
  abbrev n : ℕ
  n = length vs

  formula : Formula n es starts
  formula = a.from.call.formula

  pub call_undoes : UndoAsked lists holders marks shown keys hot trail 0
  call_undoes = record { F = clauses_with es a.kept.old; shows = a.kept.shows; base = replicate n 0; trail_is = a.kept.trail_is }

  module _ {shownA : Values} {keysA hotA trailA : List ℕ} (u : Undone lists holders marks shown keys hot trail 0 shownA keysA hotA trailA) where
    blank_there : shownA ≡ replicate n 0
    blank_there = u.again (replicate n 0) a.kept.trail_is

    shows_there : Shows (clauses_with es a.kept.old) lists holders marks shownA keysA hotA trailA
    shows_there = u.shows (clauses_with es a.kept.old) a.kept.shows

    pub call_shows : ShowAsked vs lists holders marks shownA keysA hotA trailA
    call_shows =
        record {
          F = clauses_with es a.kept.old;
          shows = shows_there;
          len = ap length blank_there ∙ length-replicate {A = ℕ} n 0;
          small = a.from.small;
          agrees = record { agrees = λ i. rw blank_there (agrees_blank vs i) };
        }

    module _ {shown1 : Values} {keys1 hot1 trail1 : List ℕ}
        (d : Shown vs lists holders marks shownA keysA hotA trailA shown1 keys1 hot1 trail1) where
      shows_values : Shows (clauses_with es a.kept.old) lists holders marks shown1 keys1 hot1 trail1
      shows_values = d.shows (clauses_with es a.kept.old) shows_there

      pub call_renews : RenewAsked con marks shown1 keys1 hot1
      call_renews =
          record {
            vars_fit = shows_values.small.vars_fit;
            up_to = rw d.values_are a.from.call.constraint_up_to;
            room = marks_room shows_values;
            some =
                omega (arith, shows_values.index.some, ap length shows_values.keys_are, length-map (clauses_with es a.kept.old) (key_of shown1));
            hot_right = shows_values.hot_are;
          }

      module _ {marks1 keysB hotB : List ℕ} (w : Renewed con marks shown1 keys1 hot1 marks1 keysB hotB) where
        there : Shows (clauses_with es con) lists holders marks1 shown1 keysB hotB trail1
        there = shows_new es a.kept.old con w (rw (ap length d.values_are) a.kept.index) shows_values

        pub call_goes : GoOver es starts con lists holders marks1 shown1 keysB hotB trail1 total 0
        call_goes =
            record {
              board = record { starts_are = formula.starts_are; total_most = a.from.call.total_most; shows = there };
              below = record { within = zero-le; set = λ i q. absurd (omega arith) };
            }

        module _ {m : Meter} {r : CallEnd} {shown2 : Values} {keys2 hot2 trail2 : List ℕ}
            (g : WentOn es con lists holders marks1 shown1 trail1 total m r shown2 keys2 hot2 trail2) where
          pub call_keeps : BoardKept n es lists holders marks1 shown2 keys2 hot2 trail2
          call_keeps =
              record {
                old = con;
                index = a.kept.index;
                shows = g.shows;
                trail_is =
                    g.leads.leads (replicate n 0) 0
                    (d.leads.leads (replicate n 0) 0 (u.leads (replicate n 0) 0 zero-le a.kept.trail_is));
              }

          pub call_done : {after : Values} → after ≡ shown2 → CalledIn es con total vs m r lists holders marks1 shown2 keys2 hot2 trail2 after
          call_done e =
              record { calls = same_call es con total m d.values_are e g.calls; shown_are = sym e; kept = call_keeps }

-- ---- where no value is set

pub call_blank : (n : ℕ) {vs : Values} {es : List ℤ} {starts : List ℕ} {con : Clause} {total : ℕ} → vs ≡ replicate n 0
    → CallOver (length vs) es starts con total → CallFrom vs es starts con total
call_blank n e w = record { call = w; small = λ i h. omega (arith, ap (λ (us : Values). get_or us i 0) e, blank_at n i) }

-- ---- the room

pub begin_room : {n : ℕ} {es : List ℤ} {starts : List ℕ} → Formula n es starts
    → {heads nexts owners lists holders marks : List ℕ} {shown : Values} {keys hot trail : List ℕ}
    → length heads ≡ 512 → ((k : ℕ) → get_or heads k 0 ≡ 0) → length nexts ≡ 4608 → length owners ≡ 4608 → length lists ≡ 513 → length holders ≡ 4608
    → length marks ≡ 512 → n ≡ length shown → length starts ≡ length keys → length hot ≡ 41 → ((b : ℕ) → get_or hot b 0 ≡ 0)
    → length trail ≡ 257 → BeginAsked (length starts - 1) es heads nexts owners lists holders marks shown keys hot trail
begin_room f {shown = shown} he ends ne ow li ho ma sh ke hots cold tl =
    let few : length shown ≤ 256 = omega (arith, sh, f.vars_fit) in
    let count = length_starts f in
    record {
      index =
          record {
            link_all =
                record {
                  vars_fit = few;
                  entries_fit = omega (arith, f.entries_most);
                  count_is = omega (arith, count);
                  over = λ l i. omega (arith, f.up_to l i, sh);
                  head_room = omega (arith, few, he);
                  next_room = omega (arith, f.entries_most, ne);
                  owner_room = omega (arith, f.entries_most, ow);
                  blank = ends;
                };
            start_room = omega (arith, few, li);
            room = omega (arith, f.entries_most, ho);
            small = omega (arith, ho);
          };
      mark_room = omega (arith, few, ma);
      as_many = sym ke ∙ count;
      blocks =
          record {
            small = omega (arith, ke, count, f.clauses_most);
            room = λ i h. omega (arith, h, ke, count, f.clauses_most, hots);
            blank = cold;
          };
      room = omega (arith, few, tl);
    }

-- ---- a closing

pub formula_clauses : {n : ℕ} {es : List ℤ} {starts : List ℕ} → Formula n es starts → call_clauses es [] (length starts - 1) ≡ clauses es
formula_clauses {es = es} f = ap (call_clauses es []) (omega (arith, length_starts f)) ∙ call_clauses_formula es []

module _ {n : ℕ} {es : List ℤ} {starts : List ℕ} (f : Formula n es starts) {lists holders marks : List ℕ} {vs1 : Values} {keys1 hot1 trail1 : List ℕ}
    (b : Begun es n lists holders marks vs1 keys1 hot1 trail1) where
  pub close_goes : BoardOver es starts [] lists holders marks vs1 keys1 hot1 trail1 (length starts - 1)
  close_goes = record { starts_are = f.starts_are; total_most = omega (arith, length_starts f); shows = b.shows }

  pub close_length : (vs2 : Values) → length vs2 ≡ length vs1 → length vs2 ≡ n
  close_length vs2 e = e ∙ ap length b.values_are ∙ length-replicate {A = ℕ} n 0

  pub close_ends : {r : Closing} {vs2 : Values} {keys2 hot2 trail2 : List ℕ}
      → CloseDone es [] lists holders marks vs1 trail1 (length starts - 1) r vs2 keys2 hot2 trail2
      → {after : Values} → after ≡ vs2 → ClosesBy (clauses es) (blank n) r after
  close_ends d q = rw (← formula_clauses f, q, ← b.values_are) (record { end_is = d.end_is; rounds_are = d.rounds_are })
