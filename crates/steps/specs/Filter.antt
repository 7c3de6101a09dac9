-- What compare and flip do to the statuses: they free candidates that pass a test, and answer how many. Assumes nothing.
use Rattle.std.specs.Prelude.{◌≡◌, Bool, List, ℕ, ◌+◌, ◌≤◌, get_or, set, length}
use Rattle.rules.specs.Numbers.{max_vars}
use Rattle.rules.specs.Meaning.{Values}
use Rattle.rules.specs.Run.{opens, freed_if, freed_from}

-- the variable at one index is free afterwards if it was open and passes, and so many were dropped
pub record DropsAt (i : ℕ) (passes : Bool) (before : List ℕ) (dropped : ℕ) (after : List ℕ) : Type 0 where
  pub freed : after ≡ set before i (freed_if passes (get_or before i 0))
  pub counted : opens after + dropped ≡ opens before

-- each open variable whose index passes is free afterwards, and so many were dropped
pub record Drops (p : ℕ → Bool) (before : List ℕ) (dropped : ℕ) (after : List ℕ) : Type 0 where
  pub freed : after ≡ freed_from 0 p before
  pub counted : opens after + dropped ≡ opens before

-- what compare requires: both models and the statuses are of the same variables
pub record CompareOver (first m : Values) (status : List ℕ) : Type 0 where
  pub first_len : length first ≡ length status
  pub model_len : length m ≡ length status
  pub vars_fit : length status ≤ max_vars
