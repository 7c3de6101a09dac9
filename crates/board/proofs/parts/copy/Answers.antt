-- `parts::copy` meets its contract. Assumes nothing.
use mathlib.Core.Path.{refl, ◌∙◌}
use native.Mathlib.Omega.{arith}
use lib.ListN.{length-set}
use Rattle.buffers.proofs.FillLaws.{filled_start, filled_step, filled_done}
use Rattle.board.proofs.parts.copy.Goals as goal

pub loop-i-init : goal.loop-i-init
loop-i-init c = (refl, filled_start _ _ c.requires)

pub loop-i-preserved : goal.loop-i-preserved
loop-i-preserved c =
    let l = c.loop-i in (
      length-set l.to l.i _ ∙ l.invariant.0,
      filled_step 0 _ l.invariant.1 (omega (arith, l.invariant.0, c.loop-i-test.true)) refl,
    )

pub returns : goal.returns
returns c = filled_done c.loop-i.invariant.1 (omega (arith, c.loop-i.invariant.0, c.loop-i-test.false))
