-- `board::first::all_hot` meets its contract. Assumes nothing.
use native.Mathlib.Omega.{arith}
use Rattle.board.proofs.FirstLaws.{heating_lt, heating_step}
use Rattle.board.proofs.first.all_hot.Goals as goal

pub overflow_add-hot : goal.overflow_add-hot
overflow_add-hot c =
    omega (arith, heating_lt c.requires c.loop-i-test.true c.loop-i.invariant)

pub loop-i-preserved : goal.loop-i-preserved
loop-i-preserved c =
    heating_step c.requires c.loop-i-test.true c.loop-i.invariant
