-- `groups::step::next_step` meets its contract. By what is found, and what is refused of it. Assumes nothing.
use mathlib.Core.Path.{sym, ◌∙◌}
use Rattle.std.proofs.lemmas.Result.{err_from_is_err_and}
use Rattle.groups.proofs.StepLaws.{step_none, step_malformed, step_fits, step_refused}
use Rattle.groups.proofs.step.next_step.Goals as goal

pub returns-in-Err : goal.returns-in-Err
returns-in-Err c =
    step_malformed c.args.due c.in-Err.from c.in-Err.ensures

pub returns-in-Ok-None : goal.returns-in-Ok-None
returns-in-Ok-None c =
    step_none c.args.due (rw c.in-Ok-None.field-0-is at c.in-Ok-None.ensures)

pub returns-in_err-judge-in-Ok-Some : goal.returns-in_err-judge-in-Ok-Some
returns-in_err-judge-in-Ok-Some c =
    let p = err_from_is_err_and c.from_residual.result c.from_residual.ensures.1 in
    rw (p.1, p.2)
    (step_refused c.args.due c.in-Ok-Some.field-0-0 (rw c.in-Ok-Some.field-0-is at c.in-Ok-Some.ensures) c.in_err-judge-in-Ok-Some.field-0.0
    (sym c.judge.ensures ∙ c.in_err-judge-in-Ok-Some.was))

pub returns-in_ok-judge-in-Ok-Some : goal.returns-in_ok-judge-in-Ok-Some
returns-in_ok-judge-in-Ok-Some c =
    step_fits c.args.due c.in-Ok-Some.field-0-0 (rw c.in-Ok-Some.field-0-is at c.in-Ok-Some.ensures)
    (sym c.judge.ensures ∙ c.in_ok-judge-in-Ok-Some.was)
