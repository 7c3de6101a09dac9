-- `groups::expand::put_pairs` meets its contract. Assumes nothing.
use mathlib.Core.Path.{◌≡◌}
use Prim.Native.Nat.{suc, ◌+◌, ◌-◌}
use native.Mathlib.Omega.{arith}
use native.Mathlib.Numerals.{add-one}
use Rattle.texts.specs.Plain.{entries_of}
use Rattle.texts.specs.Groups.{pairs_with, pairs_from}
use Rattle.groups.proofs.ExpandLaws.{putting_fits, putting_step, pairs_later}
use Rattle.groups.proofs.expand.put_pairs.Goals as goal

pub put_pairs_with-next-requires : goal.put_pairs_with-next-requires
put_pairs_with-next-requires c =
    let l = c.loop-low in
    let pre = c.requires in
    let same : c.args.first + c.args.n - l.low - 1 ≡ l.invariant.0 - 1 = omega (arith, l.invariant.2) in (
      rw (add-one l.low, same) (putting_fits l.invariant.1 pre.0 (entries_of (pairs_with l.low (suc l.low) (l.invariant.0 - 1)))
          (entries_of (pairs_from (suc l.low) (l.invariant.0 - 1))) (pairs_later l.low l.invariant.0 (omega (arith, l.invariant.2, c.loop-low-test.true)))),
      omega (arith, pre.1, l.invariant.2, c.loop-low-test.true),
      omega (arith, pre.1, l.invariant.2, c.loop-low-test.true),
    )

pub loop-low-preserved : goal.loop-low-preserved
loop-low-preserved c =
    let l = c.loop-low in
    let same : c.args.first + c.args.n - l.low - 1 ≡ l.invariant.0 - 1 = omega (arith, l.invariant.2) in
    let stored = rw (add-one l.low, same) at c.put_pairs_with-next.ensures in (
      l.invariant.0 - 1,
      rw (add-one l.low) (putting_step l.invariant.1 (entries_of (pairs_with l.low (suc l.low) (l.invariant.0 - 1)))
          (entries_of (pairs_from (suc l.low) (l.invariant.0 - 1)))
          (pairs_later l.low l.invariant.0 (omega (arith, l.invariant.2, c.loop-low-test.true))) stored),
      omega (arith, l.invariant.2, c.loop-low-test.true),
    )
