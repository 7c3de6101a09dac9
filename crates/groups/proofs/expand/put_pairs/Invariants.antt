-- `groups::expand::put_pairs` meets its contract. The invariant of its loop: what is stored, and the pairs of the values that are left,
-- are the whole. Assumes nothing.
use mathlib.Core.Path.{◌≡◌}
use Prim.Native.Nat.{ℕ, ◌+◌}
use Rattle.texts.specs.Plain.{entries_of}
use Rattle.texts.specs.Groups.{pairs_from}
use Rattle.groups.proofs.ExpandLaws.{Putting}
use Rattle.groups.proofs.expand.put_pairs.Given as goal

abbrev pub invariant-loop-low : goal.invariant-loop-low
invariant-loop-low l =
    (left : ℕ) × Putting (entries_of (pairs_from l.first l.n)) l.at l.initial.out l.next l.out (entries_of (pairs_from l.low left)) ×
    (l.low + left ≡ l.first + l.n)
