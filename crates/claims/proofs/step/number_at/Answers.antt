-- `claims::step::number_at` meets its contract: what stands next, as the reader finds it. Assumes nothing.
use Rattle.claims.proofs.StepLaws.{due_end, due_malformed, due_number}
use Rattle.claims.proofs.step.number_at.Goals as goal

pub returns-in-Ok-Some : goal.returns-in-Ok-Some
returns-in-Ok-Some c =
    due_number _ _ _ (rw c.in-Ok-Some.field-0-is at c.in-Ok-Some.ensures)

pub returns-in-Ok-None : goal.returns-in-Ok-None
returns-in-Ok-None c =
    due_end _ _ (rw c.in-Ok-None.field-0-is at c.in-Ok-None.ensures)

pub returns-in-Err : goal.returns-in-Err
returns-in-Err c =
    due_malformed _ _ _ c.in-Err.ensures
