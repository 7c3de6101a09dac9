-- `table::put_table` meets its contract: after 0 and 21 the lines of the variables stand behind the answer line. Assumes nothing.
use Rattle.buffers.proofs.PutLaws.{put_then, put_same}
use Rattle.printed.proofs.TableLaws.{table_lines}
use Rattle.printed.proofs.table.put_table.Goals as goal

pub returns-in-Settled : goal.returns-in-Settled
returns-in-Settled c =
    put_same (table_lines _ c.args.report _ _ c.in-Settled.is) (put_then c.put_answer-next.ensures c.put_lines.ensures)
