-- Signed numbers as the machine holds them: what is read back from bits is what was written.
--
--   to_z-of_z_at        bits read back, for a number that fits 32 of them
--
-- Assumes nothing.
use mathlib.Core.Path.{◌≡◌}
use lib.IntN.{ℤ}
use mir.Syntax.{w32}
use mir.Val.{SFits, to_z, of_z}
use mir.Facts.{to_z-of_z}

-- `to_z-of_z` leaves its implicit arguments open under `+ℤ`
pub to_z-of_z_at : (z : ℤ) → SFits w32 z → to_z w32 (of_z w32 z) ≡ z
to_z-of_z_at z f = to_z-of_z f
