-- `board::flip::is_false_at` meets its contract: by the key, or by the clause itself. Assumes nothing.
use Rattle.board.proofs.FlipLaws.{false_up_to, false_is}
use Rattle.board.proofs.flip.is_false_at.Goals as goal

pub has_true-requires : goal.has_true-requires
has_true-requires c =
    false_up_to c.before.requires c.clause_at-clause.ensures

pub returns : goal.returns
returns c =
    false_is c.before.requires c.clause_at-clause.ensures c.has_true.ensures
