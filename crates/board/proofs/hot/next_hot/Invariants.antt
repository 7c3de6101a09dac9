-- `board::hot::next_hot` meets its contract. The invariant of its loop: no clause from the start to below i is hot. The measure is
-- what is left. Assumes nothing.
use Prim.Native.Nat.{◌-◌}
use lib.ListN.{length}
use Rattle.board.proofs.BlockLaws.{Seeking}
use Rattle.board.proofs.hot.next_hot.Given as goal

abbrev pub invariant-loop-i : goal.invariant-loop-i
invariant-loop-i l = Seeking l.keys l.from l.i

abbrev pub decreases-loop-i : goal.decreases-loop-i
decreases-loop-i l = length l.keys - l.i
