-- `others::put_other` meets its contract: a clause without a true literal is one of the formula, with room for its line. Assumes nothing.
use mathlib.Core.Path.{◌≡◌}
use mathlib.Core.Bool.{false}
use mathlib.Core.List.{[]}
use Rattle.rules.specs.Meaning.{has_true}
use Rattle.formula.specs.Starts.{clause_at}
use Rattle.buffers.proofs.PutLaws.{room_same}
use Rattle.folded.proofs.FoldedLaws.{line_other, clause_of_up_to}
use Rattle.folded.proofs.others.put_other.Goals as goal

pub has_true-requires : goal.has_true-requires
has_true-requires c =
    rw c.clause_at-clause.ensures (clause_of_up_to c.args.n.0 c.requires.0)

pub put_clause-requires : goal.put_clause-requires
put_clause-requires c =
    let a = c.args in
    let line = clause_at a.entries.now [] a.n.0 in
    let gone : has_true a.values.now line ≡ false = cc in
    rw c.clause_at-clause.ensures (clause_of_up_to a.n.0 c.requires.0, room_same (line_other a.values.now a.n.0 line gone) c.requires.1)
