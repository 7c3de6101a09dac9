-- From the promise of `groups::read_groups` to that in numbers.
--
--   reads_groups_fit  place and count fit the fields of the struct
--   reads_groups_in   what is returned in numbers, with the buffers as they were left
--
-- Assumes nothing.
use mathlib.Core.Path.{◌≡◌, refl, ◌∙◌, ap}
use mathlib.Core.List.{List}
use Prim.Native.Nat.{ℕ}
use native.Mathlib.Omega.{arith}
use lib.IntN.{ℤ}
use lib.ListN.{length}
use Rattle.rules.specs.declared.GroupsReading.{GroupsReading}
use Rattle.texts.specs.GroupsReading.{GroupsJudged, accepted, refused, groups_returned, GroupsGiven, judged_of, groups_reading_of, ReadsGroups}
use Rattle.texts.proofs.GroupsJudged.{GroupsVerdict, refuses, accepts, verdict_of_judge}
use Rattle.texts.proofs.GroupsText.{groups_refuses_place}
use Rattle.igbezolum.specs.declared.group.IgbGroups.{IgbGroups}
use Rattle.igbezolum.specs.GroupsLinked.{groups_numbers, ReadsGroupsIn, GroupsFit}

pub reads_groups_fit : {g : GroupsGiven} {r : GroupsReading} {es : List ℤ} {ss : List ℕ} → ReadsGroups g r es ss → GroupsFit r
unfolding judged_of groups_reading_of
reads_groups_fit {g} {r} d = go (judged_of g) (verdict_of_judge (length g.entries) (length g.sizes) g.text refl) d.result_is
  where
    go : (j : GroupsJudged) → GroupsVerdict (length g.entries) (length g.sizes) g.text j → r ≡ groups_returned j → GroupsFit r
    go (refused a) (refuses w) e = rw e (record { place_fits = groups_refuses_place w; count_fits = omega arith })
    go (accepted ns c xs) (accepts w) e = rw e (record { place_fits = omega arith; count_fits = w.list_fits })

pub reads_groups_in : {g : GroupsGiven} {r : GroupsReading} {es : List ℤ} {ss : List ℕ} {n : IgbGroups} → ReadsGroups g r es ss
    → n ≡ groups_numbers r → ReadsGroupsIn g n es ss
reads_groups_in d e =
    record { result_is = e ∙ ap groups_numbers d.result_is; entries_are = d.entries_are; sizes_are = d.sizes_are }
