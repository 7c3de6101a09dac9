-- `groups::expand::put_values` meets its contract. Assumes nothing.
use mathlib.Core.Path.{refl}
use mathlib.Core.Bool.{false}
use mathlib.Core.List.{[], ◌∷◌}
use Prim.Native.Nat.{suc, ◌-◌}
use native.Mathlib.Omega.{arith}
use native.Mathlib.Numerals.{add-one}
use Rattle.texts.specs.Groups.{values_from}
use Rattle.groups.specs.Expand.{literal_at}
use Rattle.groups.proofs.ExpandLaws.{literal_stored, putting_step, values_next}
use Rattle.groups.proofs.expand.put_values.Goals as goal

pub loop-index-preserved : goal.loop-index-preserved
loop-index-preserved c =
    let l = c.loop-index in (
      l.invariant.0 - 1,
      rw (add-one l.index) (putting_step l.invariant.1 (literal_at l.index false ∷ []) (values_from (suc l.index) (l.invariant.0 - 1))
          (values_next l.index l.invariant.0 (omega (arith, l.invariant.2, c.loop-index-test.true)))
          (record {
            next_is = refl;
            after_is =
                literal_stored l.out l.next l.index false c.literal.result
                (omega (arith, c.requires.1, l.invariant.2, c.loop-index-test.true)) c.literal.ensures;
          })),
      omega (arith, l.invariant.2, c.loop-index-test.true),
    )
