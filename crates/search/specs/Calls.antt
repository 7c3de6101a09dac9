-- What a call requires, and what it promises of its result and of the values that it is lent. Assumes nothing.
use Rattle.std.specs.Prelude.{◌≡◌, Bool, List, ℕ, suc, pred, ◌≤◌, ℤ, length}
use Rattle.rules.specs.declared.Outcome.{Outcome}
use Rattle.rules.specs.Meaning.{Clause, Values, clauses}
use Rattle.rules.specs.Search.{Call, model, no_model, stopped, outcome_of, tries_of, try, call_on}
use Rattle.formula.specs.Starts.{call_clauses}
use Rattle.formula.specs.Literals.{byte_of}
use Rattle.formula.specs.Clauses.{ClauseUpTo}
use Rattle.formula.specs.Formula.{Formula}
use Rattle.search.specs.declared.meter.Meter.{Meter}
use Rattle.search.specs.declared.call.CallEnd.{CallEnd}

-- ---- what is required

-- a formula, and a constraint over its variables; a call has no more clauses than there are with the constraint
pub record CallOver (vars : ℕ) (es : List ℤ) (starts : List ℕ) (con : Clause) (total : ℕ) : Type 0 where
  pub formula : Formula vars es starts
  pub constraint_up_to : ClauseUpTo vars con
  pub total_most : total ≤ suc (length (clauses es))

-- ---- what is promised

-- the values behind a call: the model, if one was found; otherwise those at the start
abbrev pub values_after : Call → Values → Values
values_after (model m t) vs = m
values_after (no_model t) vs = vs
values_after (stopped t) vs = vs

-- a call from the values vs ended as c
pub record CallEnds (c : Call) (vs : Values) (budget : ℕ) (result : CallEnd) (after : Values) : Type 0 where
  pub outcome_is : result.outcome ≡ outcome_of c
  pub spent_is : result.meter.spent ≡ tries_of c
  pub budget_is : result.meter.budget ≡ budget
  pub values_are : after ≡ values_after c vs

-- a call on the first `total` clauses from vs, with the meter m
abbrev pub Calls : List ℤ → Clause → ℕ → Values → Meter → CallEnd → Values → Type 0
Calls es con total vs m result after =
    CallEnds (call_on m.budget (call_clauses es con total) vs m.spent) vs m.budget result after

-- a try of the value x for variable v, from which calls go on
abbrev pub Tries : List ℤ → Clause → ℕ → Values → Meter → ℕ → Bool → CallEnd → Values → Type 0
Tries es con total vs m v x result after =
    CallEnds (try m.budget (call_on m.budget (call_clauses es con total)) vs (pred v) (byte_of x) m.spent) vs m.budget result after

-- ---- taking back

-- the values found stay if they are a model; otherwise those saved come back
abbrev pub unless_model : Outcome → Values → Values → Values
unless_model Outcome.Model found saved = found
unless_model Outcome.NoModel found saved = saved
unless_model Outcome.Stopped found saved = saved
