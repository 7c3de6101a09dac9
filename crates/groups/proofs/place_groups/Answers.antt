-- `groups::place_groups` meets its contract: they are stored if there is room for them. Assumes nothing.
use Rattle.groups.proofs.ReadLaws.{put_placed}
use Rattle.groups.proofs.place_groups.Goals as goal

pub returns-then-n-le-MAX_ENTRIES : goal.returns-then-n-le-MAX_ENTRIES
returns-then-n-le-MAX_ENTRIES c =
    put_placed c.args.sizes.now c.requires.2 c.args.n c.requires.0 c.if-n-le-MAX_ENTRIES.true c.put_groups.ensures
