-- The invariant of the loop: no more numbers are stored than there is room for. Assumes nothing.
use Rattle.std.proofs.Common.{length, ◌≤◌}
use Rattle.table.proofs.read_held.Given as goal

abbrev pub invariant-loop-i : goal.invariant-loop-i
invariant-loop-i g l = l.n ≤ length l.held
