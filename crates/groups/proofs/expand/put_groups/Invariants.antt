-- `groups::expand::put_groups` meets its contract. The invariant of its loop: what is stored, and the groups that are left, are the whole.
-- Assumes nothing.
use mathlib.Core.Path.{◌≡◌}
use Prim.Native.Nat.{◌+◌}
use lib.ListN.{drop}
use Rattle.texts.specs.Plain.{entries_of}
use Rattle.texts.specs.Groups.{vars_in, groups_from}
use Rattle.groups.proofs.ExpandLaws.{Putting}
use Rattle.groups.proofs.expand.put_groups.Given as goal

abbrev pub invariant-loop-size : goal.invariant-loop-size
invariant-loop-size l = Putting (entries_of (groups_from 0 l.sizes)) 0 l.initial.out l.next l.out (entries_of (groups_from l.first (drop l.size-index l.sizes)))
    × (l.first + vars_in (drop l.size-index l.sizes) ≡ vars_in l.sizes)
