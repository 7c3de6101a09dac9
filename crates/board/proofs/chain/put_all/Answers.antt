-- `board::chain::put_all` meets its contract. Assumes nothing.
use native.Mathlib.Omega.{arith}
use Rattle.board.proofs.FillLaws.{asked_from, filling_asks, end_le, filling_step}
use Rattle.board.proofs.chain.put_all.Goals as goal

pub put_chain-at-requires : goal.put_chain-at-requires
put_chain-at-requires c =
    filling_asks (asked_from c.requires)
    c.loop-k-test.true c.loop-k.invariant

pub overflow_cast-starts : goal.overflow_cast-starts
overflow_cast-starts c =
    omega (
      arith,
      end_le (asked_from c.requires)
          c.loop-k-test.true c.loop-k.invariant
          c.put_chain-at.ensures,
      c.loop-k.invariant.same_holders,
      c.requires.small,
    )

pub loop-k-preserved : goal.loop-k-preserved
loop-k-preserved c =
    filling_step (asked_from c.requires)
    c.loop-k-test.true c.loop-k.invariant
    c.put_chain-at.ensures
