-- `hint::put_hints` meets its contract. Assumes nothing.
use mathlib.Core.Path.{refl, ◌∙◌}
use native.Mathlib.Omega.{arith}
use lib.ListN.{length-set}
use Rattle.steps.proofs.HintLaws.{hinting_start, hinting_step}
use Rattle.steps.proofs.hint.put_hints.Goals as goal

pub loop-i-init : goal.loop-i-init
loop-i-init c =
    (refl, hinting_start _ _ _ c.requires.len)

pub loop-i-preserved : goal.loop-i-preserved
loop-i-preserved c =
    let l = c.loop-i in (
      length-set l.hints l.i _ ∙ l.invariant.0,
      hinting_step l.invariant.1 (omega (arith, l.invariant.0)) c.hint_of.ensures,
    )
