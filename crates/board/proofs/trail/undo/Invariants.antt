-- `board::trail::undo` meets its contract. The invariant of its loop: what is left of the trail. The measure is its length.
-- Assumes nothing.
use Rattle.board.specs.Boards.{SameRoom, trail_len}
use Rattle.board.proofs.TrailLaws.{Undoing}
use Rattle.board.proofs.trail.undo.Given as goal

abbrev pub invariant-loop-board : goal.invariant-loop-board
invariant-loop-board l = Undoing l.index.lists.now l.index.holders.now l.index.marks.now
    l.initial.board.values.now l.initial.board.keys.now l.initial.board.hot.now l.initial.board.trail.now l.to
    l.board.values.now l.board.keys.now l.board.hot.now l.board.trail.now
    × SameRoom l.initial.board l.board

abbrev pub decreases-loop-board : goal.decreases-loop-board
decreases-loop-board l = trail_len l.board.trail.now
