-- `reader::skip::next_token` meets its contract. The invariant of its loop: no token stands from `at` up to i. The measure is what is
-- left of the text. Assumes nothing.
use Prim.Native.Nat.{◌-◌}
use lib.ListN.{length}
use Rattle.reader.specs.Skips.{Passed}
use Rattle.reader.proofs.skip.next_token.Given as goal

abbrev pub invariant-loop-i : goal.invariant-loop-i
invariant-loop-i l = Passed l.text l.at l.i

abbrev pub decreases-loop-i : goal.decreases-loop-i
decreases-loop-i l = length l.text - l.i
