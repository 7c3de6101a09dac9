-- `board::chain::put_chain` meets its contract. Assumes nothing.
use Rattle.board.proofs.PutLaws.{putting_start, putting_step}
use Rattle.board.proofs.chain.put_chain.Goals as goal

pub loop-h-init : goal.loop-h-init
loop-h-init c =
    putting_start c.requires

pub loop-h-preserved : goal.loop-h-preserved
loop-h-preserved c =
    putting_step c.loop-h-test.true c.loop-h.invariant
