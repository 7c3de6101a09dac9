-- `pair::put_bits` meets its contract. Assumes nothing.
use mathlib.Core.Path.{sym, ◌∙◌, ap}
use native.Mathlib.Omega.{arith}
use lib.IntN.{pos}
use lib.ListN.{get_or, length-set}
use Rattle.texts.specs.WitnessPrinted.{literal_bit}
use Rattle.rules.proofs.BitLaws.{to_z-of_z_at}
use Rattle.buffers.proofs.FillLaws.{filled_step}
use Rattle.witness_printed.proofs.AnswerLaws.{bit_at}
use Rattle.witness_printed.proofs.pair.put_bits.Goals as goal

pub loop-i-preserved : goal.loop-i-preserved
loop-i-preserved c =
    let l = c.loop-i in (
      length-set l.bits l.i _ ∙ l.invariant.0,
      filled_step 0 _ l.invariant.1 (omega (arith, l.invariant.0))
          (bit_at c.args.literals.now l.i (omega (arith, l.invariant.0, c.requires)) ∙
          sym
          (c.bit_of.ensures ∙
          ap literal_bit (to_z-of_z_at (get_or c.args.literals.now l.i (pos 0)) (record { sfits = omega arith })))),
    )
