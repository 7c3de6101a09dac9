-- `constraint::put_constraint` meets its contract. The invariant of its loop: what is put, and what is still to put, are the
-- constraint. Assumes nothing.
use Rattle.steps.proofs.ConstraintLaws.{Putting}
use Rattle.steps.proofs.constraint.put_constraint.Given as goal

abbrev pub invariant-loop-i : goal.invariant-loop-i
invariant-loop-i l = Putting l.first l.status l.chunk l.initial.out l.k l.i l.out
