-- docs/RULES.md, "Search" and "Budget": going on and trying, with one meter of tries. Assumes nothing.
use Rattle.std.specs.Prelude.{Bool, true, false, List, [], ◌∷◌, ℕ, zero, suc, ltb, set}
use Rattle.std.proofs.Math.Option.{Option, none, some}
use Rattle.rules.specs.declared.Outcome.{Outcome}
use Rattle.rules.specs.Meaning.{Clause, Values}
use Rattle.rules.specs.Closing.{Closed, clash, closed, closing, unsets}

-- what a call ends with, and the tries that the meter then shows
pub data Call : Type 0 where
  model : Values → ℕ → Call
  no_model : ℕ → Call
  stopped : ℕ → Call

abbrev pub outcome_of : Call → Outcome
outcome_of (model m t) = Outcome.Model
outcome_of (no_model t) = Outcome.NoModel
outcome_of (stopped t) = Outcome.Stopped

abbrev pub tries_of : Call → ℕ
tries_of (model m t) = t
tries_of (no_model t) = t
tries_of (stopped t) = t

-- ---- the choice: the lowest unset variable

abbrev pub next : Option ℕ → Option ℕ
next none = none
next (some i) = some (suc i)

abbrev pub lowest_unset : Values → Option ℕ
lowest_unset [] = none
lowest_unset (zero ∷ vs) = some 0
lowest_unset (suc b ∷ vs) = next (lowest_unset vs)

-- ---- trying a value means setting it and going on; if a try is due and the budget is spent, the run stops there

abbrev pub if_left : Bool → (Values → ℕ → Call) → Values → ℕ → Call
if_left true next_go vs t = next_go vs (suc t)
if_left false next_go vs t = stopped t

abbrev pub try : ℕ → (Values → ℕ → Call) → Values → ℕ → ℕ → ℕ → Call
try budget next_go vs i b t = if_left (ltb t budget) next_go (set vs i b) t

-- the second value is tried if the first finds nothing
abbrev pub or_else : Call → (ℕ → Call) → Call
or_else (model m t) second = model m t
or_else (no_model t) second = second t
or_else (stopped t) second = stopped t

-- ---- going on: close; on a clash there is no model here; all set is the model; otherwise try false, then true

abbrev pub choose : Option ℕ → ℕ → (Values → ℕ → Call) → Values → ℕ → Call
choose none budget next_go vs t = model vs t
choose (some i) budget next_go vs t = or_else (try budget next_go vs i 1 t) (λ u. try budget next_go vs i 2 u)

abbrev pub on_closed : Closed → ℕ → (Values → ℕ → Call) → ℕ → Call
on_closed clash budget next_go t = no_model t
on_closed (closed vs) budget next_go t = choose (lowest_unset vs) budget next_go vs t

-- each try leaves fewer unset variables, so that `unsets vs` of them, one below the other, are enough
unfoldable pub go_on : ℕ → ℕ → List Clause → Values → ℕ → Call
go_on zero budget F vs t = on_closed (closing F vs) budget (λ ws u. no_model u) t
go_on (suc n) budget F vs t = on_closed (closing F vs) budget (λ ws u. go_on n budget F ws u) t

-- a call on the clauses F from the values vs, with t tries on the meter
unfoldable pub call_on : ℕ → List Clause → Values → ℕ → Call
call_on budget F vs t = go_on (unsets vs) budget F vs t
