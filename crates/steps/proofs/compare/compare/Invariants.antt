-- `compare::compare` meets its contract. The invariant of its loop: what is left is to free behind i, and what was dropped is counted.
-- Assumes nothing.
use Rattle.rules.specs.Run.{differs}
use Rattle.steps.proofs.FilterLaws.{Filtering}
use Rattle.steps.proofs.compare.compare.Given as goal

abbrev pub invariant-loop-i : goal.invariant-loop-i
invariant-loop-i l = Filtering (differs l.first l.model) l.initial.status l.dropped l.i l.status
