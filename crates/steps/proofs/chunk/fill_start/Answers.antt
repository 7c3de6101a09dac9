-- `chunk::fill_start` meets its contract. Assumes nothing.
use mathlib.Core.Path.{sym, ◌∙◌}
use native.Mathlib.Omega.{arith}
use lib.ListN.{length-set}
use Rattle.buffers.proofs.FillLaws.{filled_step}
use Rattle.steps.proofs.ChunkLaws.{forced_values_read}
use Rattle.steps.proofs.chunk.fill_start.Goals as goal

pub loop-i-preserved : goal.loop-i-preserved
loop-i-preserved c =
    let l = c.loop-i in (
      length-set l.values l.i _ ∙ l.invariant.0,
      filled_step 0 _ l.invariant.1 (omega (arith, l.invariant.0)) (forced_values_read c.args.status.now l.i ∙ sym c.forced_value.ensures),
    )
