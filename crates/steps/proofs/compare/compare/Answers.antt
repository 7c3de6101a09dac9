-- `compare::compare` meets its contract. Assumes nothing.
use native.Mathlib.Omega.{arith}
use Rattle.rules.specs.Run.{is_open}
use Rattle.rules.proofs.ListLaws.{count_le}
use Rattle.steps.proofs.FilterLaws.{filtering_step, filtering_done, differs_read}
use Rattle.steps.proofs.compare.compare.Goals as goal

pub loop-i-preserved : goal.loop-i-preserved
loop-i-preserved c =
    filtering_step _ c.loop-i.invariant (omega (arith, c.loop-i.invariant.len))
    (differs_read c.args.first.now c.args.model.now c.loop-i.i (omega (arith, c.loop-i.invariant.len))
    (omega (arith, c.loop-i.invariant.len)))
    c.drop_if-dropped.ensures

pub overflow_add-dropped : goal.overflow_add-dropped
overflow_add-dropped c =
    let loop_again =
    filtering_step _ c.loop-i.invariant (omega (arith, c.loop-i.invariant.len))
    (differs_read c.args.first.now c.args.model.now c.loop-i.i (omega (arith, c.loop-i.invariant.len))
    (omega (arith, c.loop-i.invariant.len)))
    c.drop_if-dropped.ensures in
    omega (arith, loop_again.counted, count_le is_open c.args.status.now, c.requires)

pub returns : goal.returns
returns c =
    filtering_done c.loop-i.invariant (omega (arith, c.loop-i.invariant.len))
