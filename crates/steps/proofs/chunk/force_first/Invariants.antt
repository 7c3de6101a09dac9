-- `chunk::force_first` meets its contract. The invariant of its loop: what is left is to force behind i. Assumes nothing.
use Rattle.steps.proofs.ChunkLaws.{Forcing}
use Rattle.steps.proofs.chunk.force_first.Given as goal

abbrev pub invariant-loop-i : goal.invariant-loop-i
invariant-loop-i l = Forcing l.first l.initial.status l.chunk l.left l.i l.status
