-- `line::put_literals` meets its contract. Assumes nothing.
use mathlib.Core.Path.{ap}
use native.Mathlib.Omega.{arith}
use lib.IntN.{pos}
use lib.ListN.{get_or}
use Rattle.texts.specs.WhyPrinted.{spaced_literal}
use Rattle.rules.proofs.BitLaws.{to_z-of_z_at}
use Rattle.buffers.proofs.PutLaws.{put_same}
use Rattle.buffers.proofs.PieceLaws.{piecing_step, piecing_done}
use Rattle.why_printed.proofs.line.put_literals.Goals as goal

pub loop-entry-preserved : goal.loop-entry-preserved
loop-entry-preserved c =
    let l = get_or c.args.clause.now c.loop-entry.entry-index (pos 0) in
    piecing_step (pos 0) c.loop-entry.invariant c.loop-entry-test.true
    (put_same (ap (spaced_literal 1) (to_z-of_z_at l (record { sfits = omega arith }))) c.put_spaced-next.ensures)

pub returns : goal.returns
returns c =
    piecing_done c.loop-entry.invariant c.loop-entry-test.false
