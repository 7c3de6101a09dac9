-- `board::constraint::mark_all` meets its contract. The invariant of its loop: the literals from index i on are marked and counted. The
-- measure is what is left. Assumes nothing.
use Rattle.board.proofs.ConstraintLaws.{Marking}
use Rattle.board.proofs.constraint.mark_all.Given as goal

abbrev pub invariant-loop-i : goal.invariant-loop-i
invariant-loop-i l = Marking l.constraint l.values l.initial.marks l.key l.i l.marks
