-- `board::trail::undo` meets its contract. Assumes nothing.
use Rattle.board.proofs.TrailLaws.{undo_asks, undoing_step, undoing_done}
use Rattle.board.proofs.SameLaws.{same_then}
use Rattle.board.proofs.trail.undo.Goals as goal

pub unset_last-requires : goal.unset_last-requires
unset_last-requires c =
    record {
      F = c.loop-board.invariant.0.F;
      can =
          undo_asks c.loop-board.invariant.0 c.loop-board-test.true;
    }

pub loop-board-preserved : goal.loop-board-preserved
loop-board-preserved c = (
  undoing_step c.loop-board.invariant.0 c.loop-board-test.true c.unset_last.ensures.done,
  same_then c.loop-board.invariant.1 c.unset_last.ensures.same,
)

pub returns : goal.returns
returns c =
    record { done = undoing_done c.loop-board.invariant.0 c.loop-board-test.false; same = c.loop-board.invariant.1 }
