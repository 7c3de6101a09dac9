-- How many clauses and entries groups have (src/count.rt). Assumes nothing.
use Rattle.std.specs.Prelude.{List, ℕ, zero, suc, ◌+◌, ◌≤◌, length}
use Rattle.rules.specs.Lists.{In}
use Rattle.texts.specs.Groups.{max_groups, max_size}

-- the pairs of n values
abbrev pub pair_count : ℕ → ℕ
pair_count zero = 0
pair_count (suc n) = n + pair_count n

-- no more groups, and no larger ones, than there may be
pub record SizesSmall (ss : List ℕ) : Type 0 where
  pub few : length ss ≤ max_groups
  pub small : (n : ℕ) → In n ss → n ≤ max_size
