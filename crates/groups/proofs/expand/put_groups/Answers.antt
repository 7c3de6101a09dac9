-- `groups::expand::put_groups` meets its contract. Assumes nothing.
use Prim.Native.Nat.{◌+◌, ◌≤◌}
use native.Mathlib.Omega.{arith}
use lib.ListN.{get_or, drop}
use Rattle.rules.specs.Numbers.{max_vars}
use Rattle.texts.specs.Plain.{entries_of}
use Rattle.texts.specs.Groups.{group_clauses, groups_from}
use Rattle.groups.proofs.ExpandLaws.{putting_fits, putting_step, groups_later, sizes-next}
use Rattle.groups.proofs.expand.put_groups.Goals as goal

pub put_group-next-requires : goal.put_group-next-requires
put_group-next-requires c =
    let small : c.loop-size.first + get_or c.args.sizes.now c.loop-size.size-index 0 ≤ max_vars =
    let l = c.loop-size in
    omega (arith, c.requires.1, l.invariant.1, sizes-next c.args.sizes.now l.size-index c.loop-size-test.true) in
    let l = c.loop-size in
    let sizes = c.args.sizes.now in (
      putting_fits l.invariant.0 c.requires.0 (entries_of (group_clauses l.first (get_or sizes l.size-index 0)))
          (entries_of (groups_from (l.first + get_or sizes l.size-index 0) (drop (l.size-index + 1) sizes)))
          (groups_later l.first sizes l.size-index c.loop-size-test.true),
      small,
    )

pub loop-size-preserved : goal.loop-size-preserved
loop-size-preserved c =
    let l = c.loop-size in
    let sizes = c.args.sizes.now in (
      putting_step l.invariant.0 (entries_of (group_clauses l.first (get_or sizes l.size-index 0)))
          (entries_of (groups_from (l.first + get_or sizes l.size-index 0) (drop (l.size-index + 1) sizes)))
          (groups_later l.first sizes l.size-index c.loop-size-test.true)
          c.put_group-next.ensures,
      omega (arith, l.invariant.1, sizes-next sizes l.size-index c.loop-size-test.true),
    )
