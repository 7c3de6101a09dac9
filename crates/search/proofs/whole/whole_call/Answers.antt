-- `search::whole::whole_call` meets its contract: the board is begun, and the call goes over it. Assumes nothing.
use mathlib.Core.Path.{sym}
use native.Mathlib.Omega.{arith}
use lib.Seq.{length-take-le}
use Rattle.formula.proofs.ClauseLaws.{length_starts}
use Rattle.board.proofs.ConstraintLaws.{blank_at}
use Rattle.search.proofs.whole.whole_call.Goals as goal

pub begin_in-requires : goal.begin_in-requires
begin_in-requires c =
    record { formula = c.requires.call.formula; cold = blank_at 41 }

pub slice_bounds-keys-end : goal.slice_bounds-keys-end
slice_bounds-keys-end c =
    omega (arith, length_starts c.requires.call.formula, c.requires.call.formula.clauses_most)

pub slice_bounds-board-end-2 : goal.slice_bounds-board-end-2
slice_bounds-board-end-2 c =
    sym (length-take-le _ _ (omega (arith, length_starts c.requires.call.formula, c.requires.call.formula.clauses_most)))
