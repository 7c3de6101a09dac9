-- `shorten::igb_shorter` meets its contract: what is returned fits, and is given in numbers. Assumes nothing.
use Rattle.igbezolum.proofs.ShorterFit.{shortens_fit, shortens_in}
use Rattle.igbezolum.proofs.shorten.igb_shorter.Goals as goal

pub shorter_numbers-requires : goal.shorter_numbers-requires
shorter_numbers-requires c = shortens_fit c.shorter-report.ensures

pub returns : goal.returns
returns c = shortens_in c.shorter-report.ensures c.shorter_numbers.ensures
