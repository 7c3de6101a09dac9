-- `flip::flip` meets its contract. The invariant of its loop: the model is as it was, what is left is to free behind i, and what was
-- dropped is counted. Assumes nothing.
use Rattle.rules.specs.Meaning.{clauses}
use Rattle.steps.proofs.FlipLaws.{Flipping}
use Rattle.steps.proofs.flip.flip.Given as goal

abbrev pub invariant-loop-i : goal.invariant-loop-i
invariant-loop-i l = Flipping (clauses l.entries) l.initial.model l.initial.status l.dropped l.i l.model l.status
