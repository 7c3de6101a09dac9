-- `search::call::take_back` meets its contract. Assumes nothing.
use Rattle.board.proofs.SameLaws.{same_self}
use Rattle.search.proofs.BoardLaws.{taken_model, taken_undone}
use Rattle.search.proofs.call.take_back.Goals as goal

pub returns-in-Model : goal.returns-in-Model
returns-in-Model c =
    record { done = taken_model c.in-Model.is; same = same_self }

pub returns : goal.returns
returns c =
    record { done = taken_undone c.in_default.not-Model c.undo.ensures.done; same = c.undo.ensures.same }
