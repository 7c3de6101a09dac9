-- `chunk::force_first` meets its contract. Assumes nothing.
use native.Mathlib.Omega.{arith}
use Rattle.steps.proofs.ChunkLaws.{forcing_step, forcing_done}
use Rattle.steps.proofs.chunk.force_first.Goals as goal

pub loop-i-preserved : goal.loop-i-preserved
loop-i-preserved c =
    forcing_step c.requires c.loop-i.invariant (omega (arith, c.loop-i.invariant.len)) c.force_if-left.ensures

pub returns : goal.returns
returns c =
    forcing_done c.requires c.loop-i.invariant (omega (arith, c.loop-i.invariant.len))
