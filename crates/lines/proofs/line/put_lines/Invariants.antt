-- `line::put_lines` meets its contract. The invariant of its loop: the first i lines are put, and with the others behind them all
-- are. The measure is what is left of the statuses. Assumes nothing.
use Rattle.buffers.proofs.PieceLaws.{Piecing}
use Rattle.lines.proofs.LineLaws.{line_piece}
use Rattle.lines.proofs.line.put_lines.Given as goal

abbrev pub invariant-loop-i : goal.invariant-loop-i
invariant-loop-i l = Piecing (line_piece l.hints) l.status l.at l.initial.out l.i l.next l.out
