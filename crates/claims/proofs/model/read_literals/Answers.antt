-- `claims::model::read_literals` meets its contract. Assumes nothing.
use mathlib.Core.Path.{sym, subst}
use Prim.Native.Nat.{ℕ, ◌+◌, ◌<◌}
use native.Mathlib.Omega.{arith}
use lib.ListN.{length, set}
use lib.Seq.{set-get_or}
use Rattle.std.proofs.lemmas.Result.{err_from_is_err_and}
use Rattle.claims.proofs.ModelLaws.{Reading, reading_step, reading_stop, reading_done}
use Rattle.claims.proofs.model.read_literals.Goals as goal

pub returns-in_err-spot : goal.returns-in_err-spot
returns-in_err-spot c =
    let more : c.loop-i.i < length c.args.values.now = omega (arith, c.loop-i-test.true, c.loop-i.invariant.length_is) in
    let p = err_from_is_err_and c.from_residual.result c.from_residual.ensures.1 in
    rw (p.1, p.2, set-get_or c.loop-i.values c.loop-i.i) (reading_stop c.loop-i.invariant more c.in_err-spot.ensures)

pub loop-i-preserved : goal.loop-i-preserved
loop-i-preserved c =
    let more : c.loop-i.i < length c.args.values.now = omega (arith, c.loop-i-test.true, c.loop-i.invariant.length_is) in
    subst (λ (x : ℕ). Reading c.args.text.now c.args.at (length c.args.values.now) (c.loop-i.i + 1) c.in_ok-spot.spot.to (set c.loop-i.values c.loop-i.i x))
    (sym c.byte_of.ensures)
    (reading_step c.loop-i.invariant more c.in_ok-spot.ensures)

pub returns : goal.returns
returns c =
    reading_done c.loop-i.invariant (omega (arith, c.loop-i-test.false, c.loop-i.invariant.length_is))
