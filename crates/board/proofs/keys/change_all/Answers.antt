-- `board::keys::change_all` meets its contract. Assumes nothing.
use native.Mathlib.Omega.{arith}
use Rattle.board.proofs.HolderLaws.{walking_now, walking_step}
use Rattle.board.proofs.keys.change_all.Goals as goal

pub bounds-keys-i : goal.bounds-keys-i
bounds-keys-i c =
    (walking_now c.loop-clause-test.true c.loop-clause.invariant).at_key

pub overflow_add-key : goal.overflow_add-key
overflow_add-key c =
    omega (arith, (walking_now c.loop-clause-test.true c.loop-clause.invariant).now_can.fits)

pub overflow_sub-key : goal.overflow_sub-key
overflow_sub-key c =
    (walking_now c.loop-clause-test.true c.loop-clause.invariant).now_can.enough

pub put_key-requires : goal.put_key-requires
put_key-requires c = (
  (walking_now c.loop-clause-test.true c.loop-clause.invariant).at_key,
  c.loop-clause.invariant.hot_right,
)

pub loop-clause-preserved : goal.loop-clause-preserved
loop-clause-preserved c =
    walking_step c.loop-clause-test.true c.loop-clause.invariant
    c.put_key.auto.hot c.put_key.ensures.0 c.put_key.ensures.1
