-- `buffers::bits::write_bits` meets its contract. Assumes nothing.
use Rattle.std.proofs.Common.{get_or, arith}
use Rattle.std.proofs.lemmas.List.{get_or_default}
use Rattle.std.proofs.lemmas.List.Edits.{map_over_more}
use Rattle.rules.specs.Meaning.{bit_of}
use Rattle.buffers.proofs.bits.write_bits.Goals as goal

pub loop-value-preserved : goal.loop-value-preserved
loop-value-preserved c =
    let l = c.loop-value in
    let x = get_or l.values l.value-index 0 in
    rw c.bit_of.ensures
    (map_over_more bit_of c.args.values.now l.values l.value-index x c.loop-value-test.true l.invariant
    (get_or_default l.values l.value-index 0 x (omega arith)))
