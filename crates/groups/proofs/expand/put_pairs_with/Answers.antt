-- `groups::expand::put_pairs_with` meets its contract. Assumes nothing.
use mathlib.Core.List.{[], ◌∷◌}
use Prim.Native.Nat.{suc, ◌-◌}
use native.Mathlib.Omega.{arith}
use native.Mathlib.Numerals.{add-one}
use lib.IntN.{pos, negsuc}
use Rattle.texts.specs.Plain.{entries_of}
use Rattle.texts.specs.Groups.{pairs_with}
use Rattle.groups.proofs.ExpandLaws.{putting_step, pairs_next}
use Rattle.groups.proofs.expand.put_pairs_with.Goals as goal

pub loop-high-preserved : goal.loop-high-preserved
loop-high-preserved c =
    let l = c.loop-high in
    let low = c.args.low in (
      l.invariant.0 - 1,
      rw (add-one l.high) (putting_step l.invariant.1 (negsuc low ∷ negsuc l.high ∷ pos 0 ∷ []) (entries_of (pairs_with low (suc l.high) (l.invariant.0 - 1)))
          (pairs_next low l.high l.invariant.0 (omega (arith, l.invariant.2, c.loop-high-test.true))) c.put_pair-next.ensures),
      omega (arith, l.invariant.2, c.loop-high-test.true),
    )
