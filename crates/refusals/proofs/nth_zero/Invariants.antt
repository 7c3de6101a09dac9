-- `nth_zero` meets its contract. The invariant of its loop: the index looked for is that in what is left. Assumes nothing.
use Rattle.rules.specs.Lists.{is_zero}
use Rattle.refusals.proofs.RefuseLaws.{Seek}
use Rattle.refusals.proofs.nth_zero.Given as goal

abbrev pub invariant-loop-i : goal.invariant-loop-i
invariant-loop-i l = Seek is_zero l.entries l.n l.left l.i
