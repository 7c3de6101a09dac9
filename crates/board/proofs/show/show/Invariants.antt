-- `board::show::show` meets its contract. The invariant of its loop: the first i variables are shown. The measure is what is left.
-- Assumes nothing.
use Rattle.board.specs.Boards.{SameRoom}
use Rattle.board.proofs.ShowLaws.{Showing}
use Rattle.board.proofs.show.show.Given as goal

abbrev pub invariant-loop-i : goal.invariant-loop-i
invariant-loop-i l = Showing l.wanted l.index.lists.now l.index.holders.now l.index.marks.now
    l.initial.board.values.now l.initial.board.keys.now l.initial.board.hot.now l.initial.board.trail.now l.i
    l.board.values.now l.board.keys.now l.board.hot.now l.board.trail.now
    × SameRoom l.initial.board l.board
