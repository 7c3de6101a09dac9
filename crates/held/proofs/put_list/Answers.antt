-- `put_list` meets its contract: the held literals stand behind the entries. Assumes nothing.
use Rattle.held.proofs.StoredLaws.{list_put}
use Rattle.held.proofs.put_list.Goals as goal

pub returns : goal.returns
returns c =
    list_put c.args.entries.now c.args.held.now c.requires c.put_entries-next.ensures c.put_held.ensures
