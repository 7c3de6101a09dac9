-- `compare::drop_if` meets its contract: by the law for each of its three ways. Assumes nothing.
use Rattle.steps.proofs.FilterLaws.{drops_open}
use Rattle.steps.proofs.compare.drop_if.Goals as goal

pub returns-then-status-i-eq0 : goal.returns-then-status-i-eq0
returns-then-status-i-eq0 c =
    drops_open c.args.status.now c.args.i c.args.passes c.requires c.if-passes.true c.if-status-i-eq0.true
