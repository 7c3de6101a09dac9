-- `line::put_groups` meets its contract. Assumes nothing.
use Rattle.groups_printed.proofs.LineLaws.{lining_step, lining_done}
use Rattle.groups_printed.proofs.line.put_groups.Goals as goal

pub loop-i-preserved : goal.loop-i-preserved
loop-i-preserved c =
    lining_step c.loop-i.invariant c.loop-i-test.true c.put_values-next.ensures

pub returns : goal.returns
returns c =
    lining_done c.loop-i.invariant c.loop-i-test.false
