-- `board::close::close` meets its contract. The invariant of its loop: closing from the values as they are comes to what it comes to
-- from those at entry, and takes as many rounds less as were made. The measure is the number of unset variables. Assumes nothing.
use Rattle.rules.specs.Closing.{unsets}
use Rattle.board.specs.Boards.{SameRoom}
use Rattle.board.proofs.CloseLaws.{Closings}
use Rattle.board.proofs.close.close.Given as goal

abbrev pub invariant-loop-set : goal.invariant-loop-set
invariant-loop-set l = Closings l.view.entries.now l.view.constraint.now l.index.lists.now l.index.holders.now l.index.marks.now
    l.initial.board.values.now l.initial.board.keys.now l.initial.board.hot.now l.initial.board.trail.now l.total
    l.rounds l.board.values.now l.board.keys.now l.board.hot.now l.board.trail.now
    × SameRoom l.initial.board l.board

abbrev pub decreases-loop-set : goal.decreases-loop-set
decreases-loop-set l = unsets l.board.values.now
