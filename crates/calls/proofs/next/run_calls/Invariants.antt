-- `next::run_calls` meets its contract. The invariant of its loop: the buffers keep their lengths, the run is where it was, or further, and
-- calls and ways show its records; the board is kept, and the room stays what was lent. The measure is how many candidates remain.
-- Assumes nothing.
use lib.ListN.{length}
use Rattle.search.specs.Rooms.{BoardKept, SameRooms}
use Rattle.calls.proofs.LoopLaws.{Kept}
use Rattle.calls.proofs.next.run_calls.Given as goal

abbrev pub invariant-loop-tally : goal.invariant-loop-tally
invariant-loop-tally l = Kept l.entries l.limits l.first l.initial.tally l.initial.status l.initial.calls l.initial.ways l.initial.log l.initial.values
    l.tally l.status l.calls l.ways l.log l.values
    × BoardKept (length l.initial.status) l.entries l.room.lists.now l.room.holders.now l.room.marks.now
    l.room.board.values.now l.room.board.keys.now l.room.board.hot.now l.room.board.trail.now
    × SameRooms l.initial.room l.room

abbrev pub decreases-loop-tally : goal.decreases-loop-tally
decreases-loop-tally l = l.tally.candidates
