-- `line::put_values` meets its contract. Assumes nothing.
use Rattle.buffers.proofs.PieceLaws.{piecing_step, piecing_done}
use Rattle.groups_printed.proofs.line.put_values.Goals as goal

pub loop-i-preserved : goal.loop-i-preserved
loop-i-preserved c =
    piecing_step 0 c.loop-i.invariant c.loop-i-test.true c.put_value-next.ensures

pub returns : goal.returns
returns c =
    piecing_done c.loop-i.invariant c.loop-i-test.false
