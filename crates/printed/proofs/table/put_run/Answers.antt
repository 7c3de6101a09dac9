-- `table::put_run` meets its contract: the table is that of what the run left. Assumes nothing.
use Rattle.buffers.proofs.PutLaws.{put_same}
use Rattle.printed.proofs.TableLaws.{run_ready, run_table}
use Rattle.printed.proofs.table.put_run.Goals as goal

pub put_table-requires : goal.put_table-requires
put_table-requires c =
    run_ready c.requires.0.runs c.requires.1 c.run-report.ensures.runs c.requires.0.room

pub returns-clause-put : goal.returns-clause-put
returns-clause-put c =
    record {
      put = put_same (run_table c.requires.0.runs c.requires.1 c.run-report.ensures.runs) c.put_table.ensures;
      status_is = c.run-report.ensures.runs.status_is;
      calls_are = c.run-report.ensures.runs.calls_are;
      ways_are = c.run-report.ensures.runs.ways_are;
      hints_are = c.run-report.ensures.runs.hints_are;
      log_is = c.run-report.ensures.runs.log_is;
    }
