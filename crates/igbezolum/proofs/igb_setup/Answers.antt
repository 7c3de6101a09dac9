-- `igb_setup` meets its contract: what is returned fits, and is given in numbers. Assumes nothing.
use Rattle.igbezolum.proofs.FitLaws.{sets_up_fit, sets_up_in}
use Rattle.igbezolum.proofs.igb_setup.Goals as goal

pub report_numbers-requires : goal.report_numbers-requires
report_numbers-requires c = sets_up_fit c.setup-report.ensures

pub returns : goal.returns
returns c = sets_up_in c.setup-report.ensures c.report_numbers.ensures
