-- `close::igb_close` meets its contract: what is returned fits, and is given in numbers. Assumes nothing.
use Rattle.igbezolum.proofs.CloseFit.{closes_fit, closes_in}
use Rattle.igbezolum.proofs.close.igb_close.Goals as goal

pub close_numbers-requires : goal.close_numbers-requires
close_numbers-requires c = closes_fit c.close-report.ensures

pub returns : goal.returns
returns c = closes_in c.close-report.ensures c.close_numbers.ensures
