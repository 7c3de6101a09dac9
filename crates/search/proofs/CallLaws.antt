-- A call as `next_go` and `try_value` make it: which of its ways is taken, what it then ends with, and the values that are taken back.
--
--   Chosen, chosen, choice_none   the variable that was chosen is the lowest unset one; or there is none
--   ends_taken_back               taking back
--   ends_clash, ends_model, ends_first, ends_second     a call by what closing ends with and by the choice, and what it ends with
--   ends_stopped, ends_back       a try by what the meter gives, and what it ends with
--   falls_set                     the number of unset variables falls
--
-- Assumes nothing.
use mathlib.Core.Path.{◌≡◌, refl, ◌∙◌, ap}
use mathlib.Core.Logic.{◌≢◌}
use mathlib.Core.Bool.{Bool, true, false}
use mathlib.Core.List.{List}
use mathlib.Core.Option.{Option, none, some}
use Prim.Native.Nat.{ℕ, zero, suc, pred, ◌+◌, ◌<◌}
use native.Mathlib.Omega.{arith}
use native.Mathlib.Numerals.{add-one}
use lib.Dec.{ltb}
use lib.ListN.{set, length}
use Rattle.rules.specs.declared.Var.{Var}
use Rattle.rules.specs.declared.Outcome.{Outcome}
use Rattle.rules.specs.declared.Outcome.TheVariants.{Model, NoModel, Stopped}
use Rattle.rules.specs.Meaning.{Clause, Values, value_at}
use Rattle.rules.specs.Closing.{Closed, clash, closed, closing, unsets}
use Rattle.rules.specs.Search.{Call, model, no_model, stopped, outcome_of, lowest_unset, if_left, try, or_else, choose, on_closed, call_on}
use Rattle.rules.proofs.ListLaws.{apart}
use Rattle.rules.proofs.MeaningLaws.{unset_within, unsets-set}
use Rattle.rules.proofs.CallLaws.{Lowest, lowest_unset_sound, call_on_next}
use Rattle.formula.specs.Literals.{byte_of}
use Rattle.std.specs.Prelude.{Some, None}
use Rattle.search.specs.declared.meter.Meter.{Meter}
use Rattle.search.specs.declared.call.CallEnd.{CallEnd}
use Rattle.search.specs.Choices.{VarUpTo, choice_of}
use Rattle.search.specs.Meters.{asked_if, asked_of}
use Rattle.search.specs.Calls.{values_after, CallEnds, unless_model}
use Rattle.search.proofs.EndLaws.{undone, none_not_model, was_none}

-- ---- the choice

pub record Chosen (vs : Values) (v : ℕ) : Type 0 where
  pub variable : VarUpTo (length vs) v
  pub unset : value_at vs (pred v) ≡ 0
  pub lowest : lowest_unset vs ≡ some (pred v)

pub chosen : (vs : Values) (v : Var) → choice_of (lowest_unset vs) ≡ Some v → Chosen vs v.0
unfolding Lowest
chosen vs v e = go (lowest_unset vs) refl (lowest_unset_sound vs) e
  where
    at : (i n : ℕ) → lowest_unset vs ≡ some i → value_at vs i ≡ 0 → suc i ≡ n → Chosen vs n
    at i zero l z q = absurd (omega arith)
    at i (suc n) l z q =
        let s : i ≡ n = omega arith in
        record {
          variable = record { some = omega arith; most = omega (arith, unset_within vs i z) };
          unset = rw (← s) z;
          lowest = rw (← s) l;
        }

    go : (o : Option ℕ) → lowest_unset vs ≡ o → Lowest vs o → choice_of o ≡ Some v → Chosen vs v.0
    go none l h e = apart cc
    go (some i) l h e = at i v.0 l h.0 (cc)

pub choice_none : (vs : Values) → choice_of (lowest_unset vs) ≡ None → lowest_unset vs ≡ none
choice_none vs = go (lowest_unset vs)
  where
    go : (o : Option ℕ) → choice_of o ≡ None → o ≡ none
    go none e = refl
    go (some i) e = apart cc

-- ---- taking back

ends_taken_back : {c : Call} {ws : Values} {b : ℕ} {r : CallEnd} {us : Values} (vs after : Values) → CallEnds c ws b r us
    → after ≡ unless_model r.outcome us vs → CallEnds c vs b r after
ends_taken_back {c} {ws} {us} vs after w a =
    record {
      outcome_is = w.outcome_is;
      spent_is = w.spent_is;
      budget_is = w.budget_is;
      values_are = a ∙ rw w.outcome_is (go c w.values_are);
    }
  where
    go : (c : Call) → us ≡ values_after c ws → unless_model (outcome_of c) us vs ≡ values_after c vs
    go (model k u) v = v
    go (no_model u) v = refl
    go (stopped u) v = refl

-- ---- going on

-- the result of a call that ends without a try
abbrev pub ended : Outcome → Meter → CallEnd
ended o m = record { outcome = o; meter = m }

module _ (m : Meter) (F : List Clause) (vs : Values) where
  abbrev call : Call
  call = call_on m.budget F vs m.spent

  abbrev tried : Values → ℕ → ℕ → ℕ → Call
  tried ws i b u = try m.budget (call_on m.budget F) ws i b u

  by_closing : {r : Closed} → closing F vs ≡ r → call ≡ on_closed r m.budget (call_on m.budget F) m.spent
  by_closing e =
      call_on_next m.budget F vs m.spent ∙
      ap (λ (r : Closed). on_closed r m.budget (call_on m.budget F) m.spent) e

  by_choice : (ws : Values) {o : Option ℕ} → closing F vs ≡ closed ws → lowest_unset ws ≡ o
      → call ≡ choose o m.budget (call_on m.budget F) ws m.spent
  by_choice ws e l = by_closing e ∙ ap (λ (o : Option ℕ). choose o m.budget (call_on m.budget F) ws m.spent) l

  pub ends_clash : (after : Values) → closing F vs ≡ clash → after ≡ vs → CallEnds call vs m.budget (ended NoModel m) after
  ends_clash after e a = rw (by_closing e) (record { outcome_is = refl; spent_is = refl; budget_is = refl; values_are = a })

  pub ends_model : (ws : Values) → closing F vs ≡ closed ws → lowest_unset ws ≡ none → CallEnds call vs m.budget (ended Model m) ws
  ends_model ws e l = rw (by_choice ws e l) (record { outcome_is = refl; spent_is = refl; budget_is = refl; values_are = refl })

  module _ (ws : Values) (i : ℕ) (e : closing F vs ≡ closed ws) (l : lowest_unset ws ≡ some i) (first : CallEnd) (us : Values)
      (w : CallEnds (tried ws i 1 m.spent) ws m.budget first us) where
    -- the first try found something, or was stopped
    call_first : first.outcome ≢ NoModel → call ≡ tried ws i 1 m.spent
    call_first h = by_choice ws e l ∙ go (tried ws i 1 m.spent) (λ q. h (w.outcome_is ∙ q))
      where
        go : (c : Call) → outcome_of c ≢ NoModel → or_else c (λ u. tried ws i 2 u) ≡ c
        go (model k u) h = refl
        go (no_model u) h = absurd (h refl)
        go (stopped u) h = refl

    -- it found nothing: the second one is the call, from the same values
    call_second : first.outcome ≡ NoModel → call ≡ tried ws i 2 first.meter.spent
    call_second h = by_choice ws e l ∙ ap (λ (c : Call). or_else c (λ u. tried ws i 2 u)) (was_none w h)

    pub ends_first : first.outcome ≢ NoModel → (after : Values) → after ≡ unless_model first.outcome us vs
        → CallEnds call vs m.budget first after
    ends_first h after a = rw (call_first h) (ends_taken_back vs after w a)

    pub ends_second : first.outcome ≡ NoModel → (second : CallEnd) (ds after : Values)
        → CallEnds (try first.meter.budget (call_on first.meter.budget F) us i 2 first.meter.spent) us first.meter.budget second ds
        → after ≡ unless_model second.outcome ds vs → CallEnds call vs m.budget second after
    ends_second h second ds after w2 a = rw (call_second h) (ends_taken_back vs after (rw (undone w (none_not_model h), w.budget_is) at w2) a)

-- ---- trying

pub falls_set : (vs : Values) (i : ℕ) (x : Bool) → value_at vs i ≡ 0 → unsets (set vs i (byte_of x)) < unsets vs
falls_set vs i false z = omega (arith, unsets-set vs i 0 z)
falls_set vs i true z = omega (arith, unsets-set vs i 1 z)

module _ (m : Meter) (F : List Clause) (vs : Values) (i x : ℕ) where
  abbrev trying : Call
  trying = try m.budget (call_on m.budget F) vs i x m.spent

  pub ends_stopped : asked_of m ≡ None → CallEnds trying vs m.budget (ended Stopped m) vs
  ends_stopped e = go (ltb m.spent m.budget) e
    where
      go : (b : Bool) → asked_if b m ≡ None → CallEnds (if_left b (call_on m.budget F) (set vs i x) m.spent) vs m.budget (ended Stopped m) vs
      go true e = apart cc
      go false e = record { outcome_is = refl; spent_is = refl; budget_is = refl; values_are = refl }

  module _ (left : Meter) (e : asked_of m ≡ Some left) (r : CallEnd) (us : Values)
      (w : CallEnds (call_on left.budget F (set vs i x) left.spent) (set vs i x) left.budget r us) where
    -- a try was taken: the call from the values with the variable set
    paid : CallEnds trying (set vs i x) m.budget r us
    paid = go (ltb m.spent m.budget) e
      where
        go : (b : Bool) → asked_if b m ≡ Some left → CallEnds (if_left b (call_on m.budget F) (set vs i x) m.spent) (set vs i x) m.budget r us
        go true e =
            let p : m.budget ≡ left.budget = cc in
            let q : m.spent + 1 ≡ left.spent = cc in
            rw (← add-one m.spent, q, p) w
        go false e = apart cc

    -- unless there is a model the values are taken back
    pub ends_back : (after : Values) → after ≡ unless_model r.outcome us vs → CallEnds trying vs m.budget r after
    ends_back after a = ends_taken_back vs after paid a
