-- `clauses::put_clauses` meets its contract. The invariant of its loop: the lines of the first i clauses are put, and with the others
-- behind them all are. Assumes nothing.
use Rattle.rules.specs.Meaning.{clauses}
use Rattle.texts.specs.WhyPrinted.{kept_line}
use Rattle.buffers.proofs.PieceLaws.{Piecing}
use Rattle.why_printed.proofs.clauses.put_clauses.Given as goal

abbrev pub invariant-loop-i : goal.invariant-loop-i
invariant-loop-i l = Piecing (kept_line l.marks) (clauses l.entries) l.at l.initial.out l.i l.next l.out
