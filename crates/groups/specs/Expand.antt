-- What src/expand.rt stores. Assumes nothing.
use Rattle.std.specs.Prelude.{Bool, true, false, ℕ, suc, ℤ, pos, negsuc}

-- the literal of the variable at an index, from 0
abbrev pub literal_at : ℕ → Bool → ℤ
literal_at i true = negsuc i
literal_at i false = pos (suc i)
