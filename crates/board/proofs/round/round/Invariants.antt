-- `board::round::round` meets its contract. The invariant of its loop: the round under way, a board that shows its values, and a trail
-- that leads to them. The measure is the number of clauses left. Assumes nothing.
use Prim.Native.Nat.{◌-◌}
use Rattle.board.specs.Boards.{SameRoom}
use Rattle.board.proofs.VisitLaws.{Visiting}
use Rattle.board.proofs.round.round.Given as goal

abbrev pub invariant-loop-n : goal.invariant-loop-n
invariant-loop-n l = Visiting l.view.entries.now l.view.constraint.now l.index.lists.now l.index.holders.now l.index.marks.now
    l.initial.board.values.now l.initial.board.keys.now l.initial.board.hot.now l.initial.board.trail.now l.total l.n
    l.board.values.now l.set l.board.keys.now l.board.hot.now l.board.trail.now
    × SameRoom l.initial.board l.board

abbrev pub decreases-loop-n : goal.decreases-loop-n
decreases-loop-n l = l.total - l.n
