-- `constraint::put_constraint` meets its contract. Assumes nothing.
use native.Mathlib.Omega.{arith}
use Rattle.steps.proofs.ConstraintLaws.{putting_start, putting_step, putting_done}
use Rattle.steps.proofs.constraint.put_constraint.Goals as goal

pub loop-i-init : goal.loop-i-init
loop-i-init c =
    putting_start _ _ _ _

pub loop-i-preserved : goal.loop-i-preserved
loop-i-preserved c =
    let w = c.loop-i.invariant in
    putting_step c.requires.first_len (omega (arith, w.len, c.requires)) w c.loop-i-test.true c.put_if-k.ensures

pub returns : goal.returns
returns c =
    let w = c.loop-i.invariant in
    putting_done c.requires.first_len c.requires.chunk_most (omega (arith, w.len, c.requires)) w c.loop-i-test.false
