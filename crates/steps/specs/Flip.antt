-- What flips do. Assumes nothing.
use Rattle.std.specs.Prelude.{◌≡◌, List, ℕ, pred, ◌≤◌, ◌<◌, ℤ, length}
use Rattle.std.specs.declared.option.Option.{Option}
use Rattle.rules.specs.declared.ClauseNo.{ClauseNo}
use Rattle.rules.specs.Meaning.{Clause, Values}
use Rattle.rules.specs.Run.{can_flip}
use Rattle.rules.specs.Hints.{flip_test}
use Rattle.formula.specs.Formula.{Formula}
use Rattle.steps.specs.Filter.{DropsAt, Drops}

-- what the flip test answers for a variable; the model is what it was
pub record FlipTested (F : List Clause) (v : ℕ) (before : Values) (result : Option ClauseNo) (after : Values) : Type 0 where
  pub result_is : result ≡ flip_test F before (pred v)
  pub model_same : after ≡ before

-- flips at one index: the statuses, and the model as it was
pub record FlipsAt (F : List Clause) (i : ℕ) (m : Values) (before : List ℕ) (dropped : ℕ) (m-after : Values) (after : List ℕ) : Type 0 where
  pub drops : DropsAt i (can_flip F m i) before dropped after
  pub model_same : m-after ≡ m

-- flips at every index
pub record Flips (F : List Clause) (m : Values) (before : List ℕ) (dropped : ℕ) (m-after : Values) (after : List ℕ) : Type 0 where
  pub drops : Drops (can_flip F m) before dropped after
  pub model_same : m-after ≡ m

-- ---- what is required

-- to judge a flip: a formula over the model's variables, and one of these
pub record FlipTestOver (es : List ℤ) (starts : List ℕ) (m : Values) (v : ℕ) : Type 0 where
  pub formula : Formula (length m) es starts
  pub some : 1 ≤ v
  pub most : v ≤ length m

-- to drop at an index: that it is within the model and the statuses
pub record FlipAtOver (es : List ℤ) (starts : List ℕ) (m : Values) (status : List ℕ) (i : ℕ) : Type 0 where
  pub formula : Formula (length m) es starts
  pub in_model : i < length m
  pub in_status : i < length status

-- to drop all that can be flipped: that model and statuses are of the same variables
pub record FlipOver (es : List ℤ) (starts : List ℕ) (m : Values) (status : List ℕ) : Type 0 where
  pub formula : Formula (length m) es starts
  pub len : length m ≡ length status
