-- `again::tries_of` meets its contract. The invariant of its loop: the tries of the first i rows. Assumes nothing.
use mathlib.Core.Path.{◌≡◌}
use Prim.Native.Nat.{◌≤◌}
use Rattle.witness.specs.Again.{tries_in}
use Rattle.witness.proofs.again.tries_of.Given as goal

abbrev pub invariant-loop-i : goal.invariant-loop-i
invariant-loop-i l = (l.i ≤ l.rows) × (l.sum ≡ tries_in l.log l.i)
