-- `claims::claim::end_at` meets its contract: where no claim is due the text ends. Assumes nothing.
use Rattle.claims.proofs.ClaimLaws.{ends_here, ends_bad, ends_behind}
use Rattle.claims.proofs.claim.end_at.Goals as goal

pub returns-in-Ok-Some : goal.returns-in-Ok-Some
returns-in-Ok-Some c =
    ends_behind _ _ _ _ (rw c.in-Ok-Some.field-0-is at c.in-Ok-Some.ensures)

pub returns-in-Ok-None : goal.returns-in-Ok-None
returns-in-Ok-None c =
    ends_here _ _ _ (rw c.in-Ok-None.field-0-is at c.in-Ok-None.ensures)

pub returns-in-Err : goal.returns-in-Err
returns-in-Err c =
    ends_bad _ _ _ _ c.in-Err.ensures
