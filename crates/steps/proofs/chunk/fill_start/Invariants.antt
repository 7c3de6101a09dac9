-- `chunk::fill_start` meets its contract. The invariant of its loop: the front is filled. Assumes nothing.
use mathlib.Core.Path.{◌≡◌}
use lib.ListN.{length}
use Rattle.rules.specs.Run.{forced_values}
use Rattle.buffers.proofs.FillLaws.{Filled}
use Rattle.steps.proofs.chunk.fill_start.Given as goal

abbrev pub invariant-loop-i : goal.invariant-loop-i
invariant-loop-i l = (length l.values ≡ length l.initial.values) × Filled (forced_values l.status) l.i l.values
