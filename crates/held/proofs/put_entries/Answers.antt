-- `put_entries` meets its contract. Assumes nothing.
use Rattle.held.proofs.StoredLaws.{entries_stored}
use Rattle.held.proofs.put_entries.Goals as goal

pub returns : goal.returns
returns c = entries_stored c.args.entries.now c.args.out.now c.requires c.copy_from_slice.ensures.after
