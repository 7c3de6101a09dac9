-- `groups::expand::put_pairs_with` meets its contract. The invariant of its loop: what is stored, and the pairs of the values that are left,
-- are the whole. Assumes nothing.
use mathlib.Core.Path.{◌≡◌}
use Prim.Native.Nat.{ℕ, ◌+◌}
use Rattle.texts.specs.Plain.{entries_of}
use Rattle.texts.specs.Groups.{pairs_with}
use Rattle.groups.proofs.ExpandLaws.{Putting}
use Rattle.groups.proofs.expand.put_pairs_with.Given as goal

abbrev pub invariant-loop-high : goal.invariant-loop-high
invariant-loop-high l =
    (left : ℕ) × Putting (entries_of (pairs_with l.low l.from l.n)) l.at l.initial.out l.next l.out (entries_of (pairs_with l.low l.high left)) ×
    (l.high + left ≡ l.from + l.n)
