-- `groups::read_text` meets its contract: the number of groups, and what is behind it. Assumes nothing.
use mathlib.Core.Path.{refl}
use lib.IntN.{pos}
use Rattle.texts.specs.GroupsReading.{groups_due}
use Rattle.groups.proofs.StepLaws.{counts_says, fits_groups}
use Rattle.groups.specs.Steps.{Taken}
use Rattle.std.specs.Prelude.{Ok}
use Rattle.groups.proofs.read_text.Goals as goal

pub read_body-requires : goal.read_body-requires
read_body-requires c =
    let taken : let a = c.args in Taken a.text.now groups_due 0 c.in-Ok.to (pos c.in-Ok.n) =
    counts_says (Ok (c.in-Ok.to, c.in-Ok.n)) c.read_number.ensures c.in-Ok.is groups_due refl in
    let t = taken in
    (c.requires, t.within, fits_groups t.fits)
