-- `clause::put_literals` meets its contract. The invariant of its loop: those of the first i literals that stay are put, and with the others
-- behind them all are. The measure is what is left of the clause. Assumes nothing.
use Rattle.buffers.proofs.PieceLaws.{Piecing}
use Rattle.folded.specs.Folded.{literal_piece}
use Rattle.folded.proofs.clause.put_literals.Given as goal

abbrev pub invariant-loop-i : goal.invariant-loop-i
invariant-loop-i l = Piecing (literal_piece l.values l.clause) l.clause l.at l.initial.out l.i l.next l.out
