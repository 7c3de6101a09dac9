-- `model::put_literals` meets its contract. The invariant of its loop: the first i literals are put, and with the others behind them
-- all are. The measure is what is left of the values. Assumes nothing.
use Rattle.texts.specs.ModelLine.{model_literal}
use Rattle.buffers.proofs.PieceLaws.{Piecing}
use Rattle.lines.proofs.model.put_literals.Given as goal

abbrev pub invariant-loop-i : goal.invariant-loop-i
invariant-loop-i l = Piecing model_literal l.bits l.at l.initial.out l.i l.next l.out
