-- What putting the constraint of a chunk does to the buffer. Assumes nothing.
use Rattle.std.specs.Prelude.{◌≡◌, ◌≢◌, List, ℕ, ◌+◌, ◌≤◌, ◌<◌, ℤ, get_or, set, length, take, drop}
use Rattle.rules.specs.Numbers.{max_vars}
use Rattle.rules.specs.Meaning.{negated}
use Rattle.rules.specs.Run.{opens, literal_at, candidates_from, constraint}

-- at one index: a candidate is put behind the k before it while the chunk has room
pub data PutsAt (i : ℕ) (first status : List ℕ) (chunk k : ℕ) (before : List ℤ) : ℕ → List ℤ → Type 0 where
  candidate : get_or status i 0 ≡ 0 → k < chunk → PutsAt i first status chunk k before (k + 1) (set before k (negated (literal_at i (get_or first i 0))))
  full : chunk ≤ k → PutsAt i first status chunk k before k before
  settled : get_or status i 0 ≢ 0 → PutsAt i first status chunk k before k before

-- in all: the constraint, and behind it what stood there
pub record ConstraintPut (first status : List ℕ) (chunk : ℕ) (before after : List ℤ) : Type 0 where
  pub front : take chunk after ≡ constraint (take chunk (candidates_from 0 first status))
  pub rest : drop chunk after ≡ drop chunk before

-- ---- what is required

-- to put the candidate at an index: that there is one, and room for the chunk
pub record PutOver (i : ℕ) (first status : List ℕ) (chunk : ℕ) (out : List ℤ) : Type 0 where
  pub in_first : i < length first
  pub in_status : i < length status
  pub vars_fit : length status ≤ max_vars
  pub room : chunk ≤ length out

-- to put the constraint: as many candidates as the chunk takes, and room for them
pub record ConstraintOver (first status : List ℕ) (chunk : ℕ) (out : List ℤ) : Type 0 where
  pub first_len : length first ≡ length status
  pub vars_fit : length status ≤ max_vars
  pub room : chunk ≤ length out
  pub chunk_most : chunk ≤ opens status
