-- Variables, and the choice of one. Assumes nothing.
use Rattle.std.proofs.Math.Option as math
use Rattle.std.specs.Prelude.{ℕ, suc, ◌≤◌, Option, None, Some}
use Rattle.rules.specs.declared.Var.{Var}

-- a variable from 1 to n
pub record VarUpTo (n v : ℕ) : Type 0 where
  pub some : 1 ≤ v
  pub most : v ≤ n

-- the variable at an index
abbrev pub choice_of : math.Option ℕ → Option Var
choice_of math.none = None
choice_of (math.some i) = Some (record { 0 = suc i })
