-- `model::put_literals` meets its contract. Assumes nothing.
use Rattle.buffers.proofs.PieceLaws.{piecing_step, piecing_done}
use Rattle.lines.proofs.model.put_literals.Goals as goal

pub loop-i-preserved : goal.loop-i-preserved
loop-i-preserved c =
    piecing_step 0 c.loop-i.invariant c.loop-i-test.true c.put_literal-next.ensures

pub returns : goal.returns
returns c =
    piecing_done c.loop-i.invariant c.loop-i-test.false
