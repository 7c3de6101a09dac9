-- `group::igb_read_groups` meets its contract: what is returned fits, and is given in numbers. Assumes nothing.
use Rattle.igbezolum.proofs.GroupsFit.{reads_groups_fit, reads_groups_in}
use Rattle.igbezolum.proofs.group.igb_read_groups.Goals as goal

pub groups_numbers-requires : goal.groups_numbers-requires
groups_numbers-requires c = reads_groups_fit c.read_groups-reading.ensures

pub returns : goal.returns
returns c = reads_groups_in c.read_groups-reading.ensures c.groups_numbers.ensures
