-- `groups::count::pairs_of` meets its contract. The invariant of its loop: those of the values so far are counted. Assumes nothing.
use mathlib.Core.Path.{◌≡◌}
use Rattle.groups.specs.Counts.{pair_count}
use Rattle.groups.proofs.count.pairs_of.Given as goal

abbrev pub invariant-loop-left : goal.invariant-loop-left
invariant-loop-left l = l.pairs ≡ pair_count l.left
