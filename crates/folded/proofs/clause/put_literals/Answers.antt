-- `clause::put_literals` meets its contract. Assumes nothing.
use mathlib.Core.Path.{sym, ◌∙◌, ap}
use lib.IntN.{ℤ, pos}
use lib.ListN.{get_or, take}
use native.Mathlib.Omega.{arith}
use Rattle.rules.proofs.ListLaws.{in_get_d}
use Rattle.rules.proofs.BitLaws.{to_z-of_z_at}
use Rattle.buffers.proofs.PutLaws.{room_same, put_same}
use Rattle.buffers.proofs.PieceLaws.{piecing_room, piecing_step, piecing_done}
use Rattle.folded.specs.Folded.{stays, literal_if}
use Rattle.folded.proofs.FoldedLaws.{literal_at_lem}
use Rattle.folded.proofs.clause.put_literals.Goals as goal

pub put_if_stays-next-requires : goal.put_if_stays-next-requires
put_if_stays-next-requires c =
    let s = c.before in
    let i = c.loop-i.i in
    let l = get_or s.args.clause.now i (pos 0) in
    rw (to_z-of_z_at l (record { sfits = omega arith })) (
      s.requires.0.each l (in_get_d s.args.clause.now i (pos 0) c.loop-i-test.true),
      room_same (literal_at_lem s.args.values.now s.args.clause.now i l) (piecing_room (pos 0) c.loop-i.invariant c.loop-i-test.true),
    )

pub loop-i-preserved : goal.loop-i-preserved
loop-i-preserved c =
    let s = c.before in
    let i = c.loop-i.i in
    let l = get_or s.args.clause.now i (pos 0) in
    piecing_step (pos 0) c.loop-i.invariant c.loop-i-test.true
    (put_same
    (ap (λ (k : ℤ). literal_if (stays s.args.values.now (take i s.args.clause.now) k) k) (to_z-of_z_at l (record { sfits = omega arith })) ∙
    sym (literal_at_lem s.args.values.now s.args.clause.now i l))
    c.put_if_stays-next.ensures)

pub returns : goal.returns
returns c =
    piecing_done c.loop-i.invariant c.loop-i-test.false
