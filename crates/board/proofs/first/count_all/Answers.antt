-- `board::first::count_all` meets its contract. Assumes nothing.
use Rattle.board.proofs.FirstLaws.{counting_start, counting_asks, counting_step, counting_done}
use Rattle.board.proofs.first.count_all.Goals as goal

pub loop-k-init : goal.loop-k-init
loop-k-init c =
    counting_start c.requires

pub change_at-requires : goal.change_at-requires
change_at-requires c =
    counting_asks c.loop-k-test.true c.loop-k.invariant

pub loop-k-preserved : goal.loop-k-preserved
loop-k-preserved c =
    counting_step c.loop-k-test.true c.loop-k.invariant c.change_at.ensures
    c.change_at.auto.keys c.change_at.auto.hot

pub returns : goal.returns
returns c =
    counting_done c.loop-k-test.false c.loop-k.invariant
