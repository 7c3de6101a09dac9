-- `others::put_others` meets its contract. Assumes nothing.
use mathlib.Core.Path.{sym}
use mathlib.Core.List.{[]}
use Prim.Native.Nat.{◌<◌}
use native.Mathlib.Omega.{arith}
use lib.ListN.{length}
use Rattle.rules.specs.Meaning.{clauses}
use Rattle.formula.proofs.ClauseLaws.{length_starts}
use Rattle.buffers.proofs.PutLaws.{room_same, put_same}
use Rattle.buffers.proofs.PieceLaws.{piecing_room, piecing_step, piecing_done}
use Rattle.folded.proofs.FoldedLaws.{other_at}
use Rattle.folded.proofs.others.put_others.Goals as goal

pub overflow_sub-i-end : goal.overflow_sub-i-end
overflow_sub-i-end c =
    omega (arith, length_starts c.requires.0)

pub put_other-next-requires : goal.put_other-next-requires
put_other-next-requires c =
    let more : c.loop-i.i < length (clauses c.args.entries.now) =
    omega (arith, length_starts c.requires.0) in
    let i = c.loop-i.i in (
      record { formula = c.requires.0; some = omega arith; most = omega (arith, more) },
      room_same (sym (other_at c.args.entries.now i more c.args.values.now)) (piecing_room [] c.loop-i.invariant more),
    )

pub loop-i-preserved : goal.loop-i-preserved
loop-i-preserved c =
    let more : c.loop-i.i < length (clauses c.args.entries.now) =
    omega (arith, length_starts c.requires.0) in
    piecing_step [] c.loop-i.invariant more
    (put_same (other_at c.args.entries.now c.loop-i.i more c.args.values.now) c.put_other-next.ensures)

pub returns : goal.returns
returns c =
    piecing_done c.loop-i.invariant (omega (arith, c.loop-i-test.false, length_starts c.requires.0))
