-- `others::put_others` meets its contract. The invariant of its loop: the lines of the first i clauses are put, and with the others behind them
-- all are. Assumes nothing.
use Rattle.rules.specs.Meaning.{clauses}
use Rattle.buffers.proofs.PieceLaws.{Piecing}
use Rattle.folded.specs.Folded.{other_line}
use Rattle.folded.proofs.others.put_others.Given as goal

abbrev pub invariant-loop-i : goal.invariant-loop-i
invariant-loop-i l = Piecing (other_line l.values) (clauses l.entries) l.at l.initial.out l.i l.next l.out
