-- `pair::igb_witness` meets its contract: what is returned fits, and is given in numbers. Assumes nothing.
use Rattle.igbezolum.proofs.FitLaws.{witnesses_fit, witnesses_in}
use Rattle.igbezolum.proofs.pair.igb_witness.Goals as goal

pub report_numbers-requires : goal.report_numbers-requires
report_numbers-requires c = witnesses_fit c.witness-report.ensures

pub returns : goal.returns
returns c = witnesses_in c.witness-report.ensures c.report_numbers.ensures
