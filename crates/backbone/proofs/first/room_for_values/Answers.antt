-- `first::room_for_values` meets its contract: the front is as long as the statuses, and the board is begun. Assumes nothing.
use mathlib.Core.Path.{sym}
use native.Mathlib.Omega.{arith}
use lib.Seq.{length-take-le}
use Rattle.formula.proofs.ClauseLaws.{length_starts}
use Rattle.board.proofs.ConstraintLaws.{blank_at}
use Rattle.backbone.proofs.ListingLaws.{front_len}
use Rattle.backbone.proofs.first.room_for_values.Goals as goal

pub begin_in-requires : goal.begin_in-requires
begin_in-requires c =
    record { formula = c.requires.formula; cold = blank_at 41 }

pub slice_bounds-keys-end : goal.slice_bounds-keys-end
slice_bounds-keys-end c =
    omega (arith, length_starts c.requires.formula, c.requires.formula.clauses_most)

pub slice_bounds-board-end-2 : goal.slice_bounds-board-end-2
slice_bounds-board-end-2 c =
    sym (length-take-le _ _ (omega (arith, length_starts c.requires.formula, c.requires.formula.clauses_most)))

pub slice_bounds-all_calls-end : goal.slice_bounds-all_calls-end
slice_bounds-all_calls-end c =
    front_len _ _ c.requires.formula.vars_fit

pub all_calls-requires : goal.all_calls-requires
all_calls-requires c =
    let p = c.requires in (
      record { begins = p; values_len = sym (front_len _ _ p.formula.vars_fit) },
      c.begin_in.ensures.kept,
    )
