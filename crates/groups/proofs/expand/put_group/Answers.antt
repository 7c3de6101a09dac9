-- `groups::expand::put_group` meets its contract: the values, the zero that closes their clause, and the pairs, one behind the other. Assumes
-- nothing.
use Rattle.texts.specs.Plain.{entries_of}
use Rattle.texts.specs.Groups.{group_clauses}
use Rattle.held.specs.Stored.{Stored}
use Rattle.groups.proofs.ExpandLaws.{group_stored}
use Rattle.groups.proofs.expand.put_group.Goals as goal

pub returns : goal.returns
returns c =
    let stored : let s = c.args in Stored (entries_of (group_clauses s.first s.n)) s.at s.out.now c.put_pairs.result c.put_pairs.new.out =
    let s = c.args in
    group_stored s.first s.n s.at s.out.now c.requires.0 c.put_values-next.ensures c.put_pairs.ensures in
    stored
