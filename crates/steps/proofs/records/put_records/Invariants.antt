-- `records::put_records` meets its contract. The invariant of its loop: the first i elements of both buffers are new, the others as they
-- were. Assumes nothing.
use Rattle.steps.proofs.RecordLaws.{Recording}
use Rattle.steps.proofs.records.put_records.Given as goal

abbrev pub invariant-loop-i : goal.invariant-loop-i
invariant-loop-i l = Recording l.call l.first l.model l.status l.initial.calls l.initial.ways l.i l.calls l.ways
