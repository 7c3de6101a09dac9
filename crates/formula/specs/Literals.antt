-- Literals: their sign, which of them have a negation that an i32 holds, and the byte of a value. Assumes nothing.
use Rattle.std.specs.Prelude.{Bool, true, false, ℕ, ◌<◌, ◌^◌, ℤ, pos, negsuc}
use Rattle.rules.specs.Meaning.{var_of}

abbrev pub is_positive : ℤ → Bool
is_positive (pos n) = true
is_positive (negsuc n) = false

-- all but the least i32; a literal of a variable up to 256 is such
pub record HasNegation (l : ℤ) : Type 0 where
  pub small : var_of l < 2 ^ 31

-- the byte of a value: 1 false, 2 true
abbrev pub byte_of : Bool → ℕ
byte_of false = 1
byte_of true = 2
