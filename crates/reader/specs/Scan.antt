-- What src/scan.rt looks for and where it is found. Assumes nothing.
use Rattle.std.specs.Prelude.{◌≡◌, Bool, List, ℕ, ◌+◌, ◌<◌, drop}
use Rattle.rules.specs.Lists.{nth_index}

-- what a call answers at a byte is the test of that byte
abbrev pub Computes : (ℕ → Bool → Type 0) → (ℕ → Bool) → Type 0
Computes answers test = (b : ℕ) (r : Bool) → b < 256 → answers b r → r ≡ test b

-- the index of the first byte from `at` on that passes; if there is none the length, or `at` where that is more
abbrev pub first_from : (ℕ → Bool) → List ℕ → ℕ → ℕ
first_from p s at = at + nth_index p (drop at s) 0
