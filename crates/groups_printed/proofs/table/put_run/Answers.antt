-- `table::put_run` meets its contract: the table is that of what the run left. Assumes nothing.
use Rattle.buffers.proofs.PutLaws.{put_same}
use Rattle.groups_printed.proofs.TableLaws.{run_ready, run_table}
use Rattle.groups_printed.proofs.table.put_run.Goals as goal

pub put_table-requires : goal.put_table-requires
put_table-requires c =
    run_ready c.requires.0 c.requires.1 c.run-report.ensures.runs

pub returns-clause-put : goal.returns-clause-put
returns-clause-put c =
    put_same (run_table c.requires.0 c.requires.1 c.run-report.ensures.runs) c.put_table.ensures
