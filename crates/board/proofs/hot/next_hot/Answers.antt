-- `board::hot::next_hot` meets its contract. Assumes nothing.
use Rattle.board.proofs.BlockLaws.{seeking_block}
use Rattle.board.proofs.hot.next_hot.Goals as goal

pub loop-i-preserved-then-hot-block-eq0 : goal.loop-i-preserved-then-hot-block-eq0
loop-i-preserved-then-hot-block-eq0 c =
    seeking_block c.loop-i.invariant c.requires.1 c.if-hot-block-eq0.true
