-- What forcing does to one status. Assumes nothing.
use Rattle.std.specs.Prelude.{◌≡◌, List, ℕ, zero, suc, get_or, set}
use Rattle.rules.specs.Run.{forced_by}

-- a status, and how many are left to force, after one that is open is forced
abbrev pub status_forced : ℕ → ℕ → ℕ → ℕ
status_forced zero zero b = 0
status_forced zero (suc left) b = forced_by b
status_forced (suc s) left b = suc s

abbrev pub left_forced : ℕ → ℕ → ℕ
left_forced zero zero = 0
left_forced zero (suc left) = left
left_forced (suc s) left = left

pub record ForcesAt (i : ℕ) (first : List ℕ) (left : ℕ) (before : List ℕ) (result : ℕ) (after : List ℕ) : Type 0 where
  pub status_is : after ≡ set before i (status_forced (get_or before i 0) left (get_or first i 0))
  pub left_is : result ≡ left_forced (get_or before i 0) left
