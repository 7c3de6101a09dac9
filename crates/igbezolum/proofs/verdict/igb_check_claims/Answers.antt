-- `verdict::igb_check_claims` meets its contract: what is returned fits, and is given in numbers. Assumes nothing.
use Rattle.igbezolum.proofs.ClaimsFit.{checks_fit, checks_in}
use Rattle.igbezolum.proofs.verdict.igb_check_claims.Goals as goal

pub verdict_numbers-requires : goal.verdict_numbers-requires
verdict_numbers-requires c = checks_fit c.check_claims-answer.ensures

pub returns : goal.returns
returns c = checks_in c.check_claims-answer.ensures c.verdict_numbers.ensures
