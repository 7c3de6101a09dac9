-- The proof of the cycle of calls {go_on, try_value} over the board. The measures: twice the number of unset variables, and one more for
-- go_on. Closing leaves no more of them, and a value set leaves fewer. The invariant of the loop: false is tried, or it found nothing and
-- true is. Each way out is a law of OnBoardLaws. Assumes nothing.
use Prim.Native.Nat.{◌+◌, ◌*◌}
use Rattle.rules.specs.Closing.{unsets}
use Rattle.board.specs.Boards.{SameRoom}
use Rattle.search.proofs.OnBoardLaws.{Turn, turns_left}
use Rattle.search.proofs.call.+go_on_try_value.Given as goal

abbrev pub invariant-go_on-loop-value : goal.invariant-go_on-loop-value
invariant-go_on-loop-value l = Turn l.view.entries.now l.view.constraint.now l.index.lists.now l.index.holders.now l.index.marks.now
    l.initial.board.values.now l.initial.board.keys.now l.initial.board.hot.now l.initial.board.trail.now l.total l.initial.rest l.v.0
    l.board.values.now l.board.keys.now l.board.hot.now l.board.trail.now l.rest l.value
    × SameRoom l.initial.board l.board

abbrev pub decreases-go_on-loop-value : goal.decreases-go_on-loop-value
decreases-go_on-loop-value l = turns_left l.value

abbrev pub decreases-go_on : goal.decreases-go_on
decreases-go_on l = 2 * unsets l.board.now.values.now + 1

abbrev pub decreases-try_value : goal.decreases-try_value
decreases-try_value l = 2 * unsets l.board.now.values.now
