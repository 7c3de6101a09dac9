-- `why::igb_why` meets its contract: what is returned fits, and is given in numbers. Assumes nothing.
use Rattle.rules.proofs.BitLaws.{to_z-of_z_at}
use Rattle.igbezolum.proofs.WhyFit.{why_fit, explains_in}
use Rattle.igbezolum.proofs.why.igb_why.Goals as goal

pub why_numbers-requires : goal.why_numbers-requires
why_numbers-requires c = why_fit c.why-report.ensures

pub returns : goal.returns
returns c = explains_in (rw (to_z-of_z_at c.args.literal c.ranges.literal) at c.why-report.ensures) c.why_numbers.ensures
