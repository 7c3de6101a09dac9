-- `line::put_values` meets its contract. The invariant of its loop: the first i lines are put, and with the others behind them all are.
-- The measure is what is left of the statuses. Assumes nothing.
use Rattle.texts.specs.GroupsPrinted.{value_line}
use Rattle.buffers.proofs.PieceLaws.{Piecing}
use Rattle.groups_printed.proofs.line.put_values.Given as goal

abbrev pub invariant-loop-i : goal.invariant-loop-i
invariant-loop-i l = Piecing (value_line l.group) l.status l.at l.initial.out l.i l.next l.out
