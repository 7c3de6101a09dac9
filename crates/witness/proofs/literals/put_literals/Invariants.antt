-- `literals::put_literals` meets its contract. The invariant of its loop: the front is filled. Assumes nothing.
use mathlib.Core.Path.{◌≡◌}
use lib.ListN.{length}
use Rattle.rules.specs.Witness.{literals_from}
use Rattle.buffers.proofs.FillLaws.{Filled}
use Rattle.witness.proofs.literals.put_literals.Given as goal

abbrev pub invariant-loop-i : goal.invariant-loop-i
invariant-loop-i l = (length l.out ≡ length l.initial.out) × Filled (literals_from 0 l.model) l.i l.out
