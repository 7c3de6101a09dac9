-- `claims::claim::check_all` meets its contract. Assumes nothing.
use mathlib.Core.Path.{◌≡◌}
use Prim.Native.Nat.{◌+◌, ◌-◌}
use native.Mathlib.Omega.{arith}
use Rattle.claims.proofs.ClaimLaws.{checking_stop, checking_step}
use Rattle.claims.proofs.claim.check_all.Goals as goal

pub returns-in-Err : goal.returns-in-Err
returns-in-Err c =
    checking_stop c.loop.invariant (omega (arith, c.loop-test.true)) c.in-Err.ensures

pub loop-preserved : goal.loop-preserved
loop-preserved c =
    let same : c.args.n - (c.loop.counter + 1) ≡ c.args.n - c.loop.counter - 1 = omega arith in
    rw same (checking_step c.loop.invariant (omega (arith, c.loop-test.true)) c.in-Ok.ensures)
