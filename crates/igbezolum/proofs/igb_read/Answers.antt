-- `igb_read` meets its contract: what is returned fits, and is given in numbers. Assumes nothing.
use Rattle.igbezolum.proofs.FitLaws.{reads_fit, reads_in}
use Rattle.igbezolum.proofs.igb_read.Goals as goal

pub reading_numbers-requires : goal.reading_numbers-requires
reading_numbers-requires c = reads_fit c.read-reading.ensures

pub returns : goal.returns
returns c = reads_in c.read-reading.ensures c.reading_numbers.ensures
