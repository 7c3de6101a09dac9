-- `others::is_other` meets its contract: the clause is looked up, and none of its literals is true. Assumes nothing.
use Rattle.folded.proofs.FoldedLaws.{clause_of_up_to}
use Rattle.folded.proofs.others.is_other.Goals as goal

pub has_true-requires : goal.has_true-requires
has_true-requires c =
    let s = c.before in
    rw c.clause_at-clause.ensures (clause_of_up_to s.args.n.0 s.requires)
