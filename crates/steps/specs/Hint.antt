-- What putting the hints of a first model does. Assumes nothing.
use Rattle.std.specs.Prelude.{◌≡◌, List, ℕ, zero, suc, pred, ℤ, length, get_or}
use Rattle.rules.specs.Lists.{tabled}
use Rattle.rules.specs.Meaning.{Clause, Values}
use Rattle.rules.specs.Hints.{hint_at}
use Rattle.formula.specs.Formula.{Formula}

-- the hint of a variable by its byte: 0 where it is unset, since there is no model then
abbrev pub hint_if : ℕ → ℕ → ℕ
hint_if zero hint = 0
hint_if (suc b) hint = hint

-- the hint at an index
abbrev pub hint_in : List Clause → Values → ℕ → ℕ
hint_in F vs i = hint_if (get_or vs i 0) (hint_at F vs i)

-- the hint of a variable, and the values as they were
pub record Hinted (F : List Clause) (v : ℕ) (before : Values) (result : ℕ) (after : Values) : Type 0 where
  pub result_is : result ≡ hint_in F before (pred v)
  pub values_same : after ≡ before

-- a hint for each variable
pub record HintsPut (F : List Clause) (before after : Values) (hints : List ℕ) : Type 0 where
  pub hints_are : hints ≡ tabled (hint_in F before) 0 (length before)
  pub values_same : after ≡ before

-- what is required: a formula over as many variables as there are values and hints
pub record HintsOver (es : List ℤ) (starts : List ℕ) (vs : Values) (hints : List ℕ) : Type 0 where
  pub formula : Formula (length vs) es starts
  pub len : length hints ≡ length vs
