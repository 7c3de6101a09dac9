-- `buffers::bits::write_bits` meets its contract. The invariant of its loop: the values before the index are bits, the others as they were.
-- Assumes nothing.
use Rattle.std.proofs.Common.{◌≡◌, ◌++◌, map, take, drop}
use Rattle.rules.specs.Meaning.{bit_of}
use Rattle.buffers.proofs.bits.write_bits.Given as goal

abbrev pub invariant-loop-value : goal.invariant-loop-value
invariant-loop-value l = l.values ≡ map bit_of (take l.value-index l.initial.values) ++ drop l.value-index l.initial.values
