-- `groups::expand::put_values` meets its contract. The invariant of its loop: what is stored, and the values that are left, are the
-- whole. Assumes nothing.
use mathlib.Core.Path.{◌≡◌}
use Prim.Native.Nat.{ℕ, ◌+◌}
use Rattle.texts.specs.Groups.{values_from}
use Rattle.groups.proofs.ExpandLaws.{Putting}
use Rattle.groups.proofs.expand.put_values.Given as goal

abbrev pub invariant-loop-index : goal.invariant-loop-index
invariant-loop-index l =
    (left : ℕ) × Putting (values_from l.first l.n) l.at l.initial.out l.next l.out (values_from l.index left) × (l.index + left ≡ l.first + l.n)
