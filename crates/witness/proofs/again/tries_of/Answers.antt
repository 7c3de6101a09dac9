-- `again::tries_of` meets its contract. Assumes nothing.
use Prim.Native.Nat.{◌+◌}
use native.Mathlib.Omega.{arith}
use Rattle.witness.proofs.AgainLaws.{tries_more, tries_in_mono}
use Rattle.witness.proofs.again.tries_of.Goals as goal

pub overflow_add-sum-in-loop-i : goal.overflow_add-sum-in-loop-i
overflow_add-sum-in-loop-i c =
    let mono = tries_in_mono c.args.log.now (c.loop-i.i + 1) c.args.rows (omega (arith, c.loop-i-test.true)) in
    omega (arith, tries_more c.args.log.now c.loop-i.i c.loop-i.invariant.1, mono, c.requires.fits)
