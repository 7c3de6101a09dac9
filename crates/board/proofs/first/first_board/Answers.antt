-- `board::first::first_board` meets its contract: values and keys cleared, blocks and keys counted. Assumes nothing.
use Rattle.board.proofs.FirstLaws.{first_done}
use Rattle.board.proofs.first.first_board.Goals as goal

pub returns : goal.returns
returns c =
    first_done c.requires (c.fill.ensures.after (λ y e. e))
    (c.fill-2.ensures.after (λ y e. e)) c.count_all.ensures
