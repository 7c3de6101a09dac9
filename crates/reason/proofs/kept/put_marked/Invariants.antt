-- `kept::put_marked` meets its contract. The invariant of its loop: what is put, and the marked entries of what is left, are all marked
-- entries. Assumes nothing.
use Rattle.reason.proofs.KeptLaws.{Puts}
use Rattle.reason.proofs.kept.put_marked.Given as goal

abbrev pub invariant-loop-i : goal.invariant-loop-i
invariant-loop-i l = Puts l.entries l.marks l.initial.out l.out l.clause l.n l.i
