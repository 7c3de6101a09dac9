-- `line::put_groups` meets its contract. The invariant of its loop: the lines of i groups are put, and with the others behind them all are.
-- The measure is how many groups are left. Assumes nothing.
use Rattle.groups_printed.proofs.LineLaws.{Lining}
use Rattle.groups_printed.proofs.line.put_groups.Given as goal

abbrev pub invariant-loop-i : goal.invariant-loop-i
invariant-loop-i l = Lining l.sizes l.status l.at l.initial.out l.i l.from l.next l.out
