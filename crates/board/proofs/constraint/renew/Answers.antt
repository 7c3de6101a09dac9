-- `board::constraint::renew` meets its contract: marks cleared, the constraint marked and counted, its key put. Assumes nothing.
use Rattle.board.proofs.ConstraintLaws.{renewed}
use Rattle.board.proofs.constraint.renew.Goals as goal

pub returns : goal.returns
returns c =
    renewed c.requires c.mark_all-key.ensures c.put_key.ensures.0 c.put_key.ensures.1
