-- `pair::put_bits` meets its contract. The invariant of its loop: the front is filled. Assumes nothing.
use mathlib.Core.Path.{◌≡◌}
use mathlib.Core.List.{map}
use lib.ListN.{length}
use Rattle.texts.specs.WitnessPrinted.{literal_bit}
use Rattle.buffers.proofs.FillLaws.{Filled}
use Rattle.witness_printed.proofs.pair.put_bits.Given as goal

abbrev pub invariant-loop-i : goal.invariant-loop-i
invariant-loop-i l = (length l.bits ≡ length l.initial.bits) × Filled (map literal_bit l.literals) l.i l.bits
