-- `again::keep_before` meets its contract. Assumes nothing.
use native.Mathlib.Omega.{arith}
use Rattle.witness.proofs.AgainLaws.{keeping_step, keeping_done}
use Rattle.witness.proofs.again.keep_before.Goals as goal

pub loop-i-preserved : goal.loop-i-preserved
loop-i-preserved c =
    keeping_step c.requires c.loop-i.invariant (omega (arith, c.loop-i.invariant.len)) c.status_before.ensures

pub returns : goal.returns
returns c =
    keeping_done c.loop-i.invariant (omega (arith, c.loop-i.invariant.len))
