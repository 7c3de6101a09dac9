-- `board::flip::first_held` meets its contract: the part that was looked up is that of the literal. Assumes nothing.
use mathlib.Core.Path.{sym, ◌∙◌, ap}
use Rattle.formula.specs.Formula.{first_false_of}
use Rattle.board.proofs.FlipLaws.{held_asks, held_part}
use Rattle.board.proofs.flip.first_held.Goals as goal

pub first_in-requires : goal.first_in-requires
first_in-requires c =
    rw c.code_of-k.ensures (held_asks c.requires)

pub returns : goal.returns
returns c =
    c.first_in.ensures ∙ rw c.code_of-k.ensures (ap first_false_of (sym (held_part c.requires)))
