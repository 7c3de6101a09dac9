-- `parts::copy` meets its contract. The invariant of its loop: the front is copied. Assumes nothing.
use mathlib.Core.Path.{◌≡◌}
use lib.ListN.{length}
use Rattle.buffers.proofs.FillLaws.{Filled}
use Rattle.board.proofs.parts.copy.Given as goal

abbrev pub invariant-loop-i : goal.invariant-loop-i
invariant-loop-i l = (length l.to ≡ length l.initial.to) × Filled l.from l.i l.to
