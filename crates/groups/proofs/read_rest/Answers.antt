-- `groups::read_rest` meets its contract: the number of clauses, and the list behind it. Assumes nothing.
use mathlib.Core.Path.{refl}
use lib.IntN.{pos}
use Rattle.texts.specs.GroupsReading.{sizes_due}
use Rattle.groups.proofs.StepLaws.{counts_says, fits_count}
use Rattle.groups.specs.Steps.{Taken}
use Rattle.std.specs.Prelude.{Ok}
use Rattle.groups.proofs.read_rest.Goals as goal

pub read_list-requires : goal.read_list-requires
read_list-requires c =
    let taken : let a = c.args in Taken a.text.now (sizes_due 0 a.sizes.now) a.at c.in-Ok.to (pos c.in-Ok.clauses) =
    counts_says (Ok (c.in-Ok.to, c.in-Ok.clauses)) c.read_number.ensures c.in-Ok.is (sizes_due 0 c.args.sizes.now) refl in
    let t = taken in
    let w = c.requires in (
      record { small = w.small; vars_are = w.vars_are; vars_fit = w.vars_fit; within = t.within; text_fits = w.text_fits; room = w.room },
      fits_count t.fits,
    )
