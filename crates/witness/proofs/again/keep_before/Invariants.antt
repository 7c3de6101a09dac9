-- `again::keep_before` meets its contract. The invariant of its loop: the first i statuses are those before the call, the others as they
-- were. Assumes nothing.
use Rattle.witness.proofs.AgainLaws.{Keeping}
use Rattle.witness.proofs.again.keep_before.Given as goal

abbrev pub invariant-loop-i : goal.invariant-loop-i
invariant-loop-i l = Keeping l.call l.calls l.initial.status l.i l.status
