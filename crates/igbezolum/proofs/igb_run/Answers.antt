-- `igb_run` meets its contract: what is returned fits, and is given in numbers; the buffers of the run are those that were lent. Assumes nothing.
use Rattle.igbezolum.proofs.FitLaws.{runs_fit, runs_lent}
use Rattle.std.proofs.Common.{rules}
use Rattle.igbezolum.proofs.igb_run.Goals as goal

pub report_numbers-requires : goal.report_numbers-requires
report_numbers-requires c = runs_fit c.run-report.ensures.runs

pub returns : goal.returns
returns c =
    let same = c.run-report.ensures.same_reference in
    runs_lent c.run-report.ensures.runs c.report_numbers.ensures (search rules) (search rules) (search rules) (search rules) (search rules)
