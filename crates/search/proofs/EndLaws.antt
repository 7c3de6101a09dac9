-- The laws of `CallEnds`: what the end of a call says of the call, and of the values that it leaves.
--
--   ends_unique                   no second result meets the promise
--   undone, none_not_model        a call that found no model leaves the values
--   was_model, was_none, was_stopped, was_otherwise     the call, by what it ended with
--
-- Assumes nothing.
use mathlib.Core.Path.{◌≡◌, refl, sym, ◌∙◌}
use mathlib.Core.Logic.{◌≢◌, ◌⊎◌, inl, inr}
use Prim.Native.Nat.{ℕ}
use Rattle.rules.specs.declared.Outcome.{Outcome}
use Rattle.rules.specs.declared.Outcome.TheVariants.{Model, NoModel, Stopped}
use Rattle.rules.specs.Meaning.{Values}
use Rattle.rules.specs.Search.{Call, model, no_model, stopped, outcome_of, tries_of}
use Rattle.rules.proofs.ListLaws.{apart}
use Rattle.search.specs.declared.call.CallEnd.{CallEnd}
use Rattle.search.specs.Calls.{values_after, CallEnds}

-- ---- what it leaves

-- no second result, and no other values, meet the promise
pub ends_unique : {c : Call} {vs : Values} {b : ℕ} {r s : CallEnd} {us ws : Values} → CallEnds c vs b r us → CallEnds c vs b s ws
    → (r ≡ s) × (us ≡ ws)
ends_unique p q = (
  λ i. record {
    outcome = (p.outcome_is ∙ sym q.outcome_is) i;
    meter = record { budget = (p.budget_is ∙ sym q.budget_is) i; spent = (p.spent_is ∙ sym q.spent_is) i };
  },
  p.values_are ∙ sym q.values_are,
)

-- a call that found no model leaves the values
pub undone : {c : Call} {vs : Values} {b : ℕ} {r : CallEnd} {us : Values} → CallEnds c vs b r us → r.outcome ≢ Model → us ≡ vs
undone {c} {vs} {us} w h = go c (λ q. h (w.outcome_is ∙ q)) w.values_are
  where
    go : (c : Call) → outcome_of c ≢ Model → us ≡ values_after c vs → us ≡ vs
    go (model k u) n v = absurd (n refl)
    go (no_model u) n v = v
    go (stopped u) n v = v

pub none_not_model : {o : Outcome} → o ≡ NoModel → o ≢ Model
none_not_model e q = apart cc

-- ---- the call, by what it ended with

module _ {c : Call} {vs after : Values} {budget : ℕ} {r : CallEnd} (w : CallEnds c vs budget r after) where
  pub was_model : r.outcome ≡ Model → c ≡ model after r.meter.spent
  was_model e = go c w.outcome_is w.spent_is w.values_are
    where
      go : (c : Call) → r.outcome ≡ outcome_of c → r.meter.spent ≡ tries_of c → after ≡ values_after c vs → c ≡ model after r.meter.spent
      go (model m t) o s v = cc
      go (no_model t) o s v = apart cc
      go (stopped t) o s v = apart cc

  pub was_none : r.outcome ≡ NoModel → c ≡ no_model r.meter.spent
  was_none e = go c w.outcome_is w.spent_is
    where
      go : (c : Call) → r.outcome ≡ outcome_of c → r.meter.spent ≡ tries_of c → c ≡ no_model r.meter.spent
      go (model m t) o s = apart cc
      go (no_model t) o s = cc
      go (stopped t) o s = apart cc

  pub was_stopped : r.outcome ≡ Stopped → c ≡ stopped r.meter.spent
  was_stopped e = go c w.outcome_is w.spent_is
    where
      go : (c : Call) → r.outcome ≡ outcome_of c → r.meter.spent ≡ tries_of c → c ≡ stopped r.meter.spent
      go (model m t) o s = apart cc
      go (no_model t) o s = apart cc
      go (stopped t) o s = cc

  -- a call that found no model: none, or stopped
  pub was_otherwise : r.outcome ≢ Model
      → ((c ≡ no_model r.meter.spent) × (r.outcome ≡ NoModel)) ⊎ ((c ≡ stopped r.meter.spent) × (r.outcome ≡ Stopped))
  was_otherwise ne = go r.outcome refl
    where
      go : (o : Outcome) → r.outcome ≡ o
          → ((c ≡ no_model r.meter.spent) × (r.outcome ≡ NoModel)) ⊎ ((c ≡ stopped r.meter.spent) × (r.outcome ≡ Stopped))
      go Model e = absurd (ne e)
      go NoModel e = inl (was_none e, e)
      go Stopped e = inr (was_stopped e, e)
