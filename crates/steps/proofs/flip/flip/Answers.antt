-- `flip::flip` meets its contract. Assumes nothing.
use native.Mathlib.Omega.{arith}
use Rattle.rules.specs.Run.{is_open}
use Rattle.rules.proofs.ListLaws.{count_le}
use Rattle.steps.proofs.FlipLaws.{flipping_step, flipping_done}
use Rattle.steps.proofs.flip.flip.Goals as goal

pub loop-i-preserved : goal.loop-i-preserved
loop-i-preserved c =
    flipping_step c.loop-i.invariant
    (omega (arith, c.loop-i.invariant.filtering.len)) c.flip_at-dropped.ensures

pub overflow_add-dropped : goal.overflow_add-dropped
overflow_add-dropped c =
    let loop_again =
    flipping_step c.loop-i.invariant
    (omega (arith, c.loop-i.invariant.filtering.len)) c.flip_at-dropped.ensures in
    omega (arith, loop_again.filtering.counted, count_le is_open c.args.status.now, c.requires.formula.vars_fit, c.requires.len)

pub returns : goal.returns
returns c =
    flipping_done c.loop-i.invariant (omega (arith, c.loop-i.invariant.filtering.len))
