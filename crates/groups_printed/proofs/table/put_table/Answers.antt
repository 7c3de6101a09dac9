-- `table::put_table` meets its contract: the answer line alone after 20, and else the lines behind it. Assumes nothing.
use Rattle.buffers.proofs.PutLaws.{put_then, put_same}
use Rattle.groups_printed.proofs.TableLaws.{table_lines}
use Rattle.groups_printed.proofs.table.put_table.Goals as goal

pub returns : goal.returns
returns c = put_same (table_lines c.requires c.in_default.not-NoModel) (put_then c.put_answer-next.ensures c.put_groups.ensures)
