-- `search::whole::whole_close` meets its contract: the board is begun, with no constraint, and closed. Assumes nothing.
use mathlib.Core.Path.{sym}
use native.Mathlib.Omega.{arith}
use lib.Seq.{length-take-le}
use Rattle.formula.proofs.ClauseLaws.{length_starts}
use Rattle.board.proofs.ConstraintLaws.{blank_at}
use Rattle.search.proofs.WholeLaws.{close_goes, close_ends}
use Rattle.search.proofs.whole.whole_close.Goals as goal

pub begin_in-requires : goal.begin_in-requires
begin_in-requires c =
    record { formula = c.requires; cold = blank_at 41 }

pub slice_bounds-keys-end : goal.slice_bounds-keys-end
slice_bounds-keys-end c =
    omega (arith, length_starts c.requires, c.requires.clauses_most)

pub slice_bounds-board-end-2 : goal.slice_bounds-board-end-2
slice_bounds-board-end-2 c =
    sym (length-take-le _ _ (omega (arith, length_starts c.requires, c.requires.clauses_most)))

pub close-closing-requires : goal.close-closing-requires
close-closing-requires c =
    close_goes c.requires c.begin_in.ensures.begun

pub returns : goal.returns
returns c =
    close_ends c.requires c.begin_in.ensures.begun c.close-closing.ensures.done c.copy_values.ensures
