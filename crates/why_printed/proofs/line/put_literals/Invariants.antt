-- `line::put_literals` meets its contract. The invariant of its loop: the first i literals are put, and with the others behind them
-- all are. The measure is what is left of the clause. Assumes nothing.
use Rattle.texts.specs.WhyPrinted.{spaced_literal}
use Rattle.buffers.proofs.PieceLaws.{Piecing}
use Rattle.why_printed.proofs.line.put_literals.Given as goal

abbrev pub invariant-loop-entry : goal.invariant-loop-entry
invariant-loop-entry l = Piecing spaced_literal l.clause l.at l.initial.out l.entry-index l.next l.out
