-- `board::begin::begin` meets its contract: the index, no marks, and the first board. Assumes nothing.
use Rattle.board.proofs.BeginLaws.{begin_asks, begun}
use Rattle.board.proofs.begin.begin.Goals as goal

pub first_board-requires : goal.first_board-requires
first_board-requires c =
    let start = c.before.before.before in
    begin_asks start.requires c.build_index.ensures.done (c.fill.ensures.after (λ y e. e))

pub returns : goal.returns
returns c =
    record {
      done = begun c.requires c.build_index.ensures.done (c.fill.ensures.after (λ y e. e)) c.first_board.ensures;
      same = c.build_index.ensures.same;
    }
