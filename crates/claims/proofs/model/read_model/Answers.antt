-- `claims::model::read_model` meets its contract: the count, the literals, and the first clause that has no true literal. Assumes nothing.
use mathlib.Core.Path.{sym, ◌∙◌}
use Rattle.std.proofs.lemmas.Result.{err_from_is_err_and}
use Rattle.rules.specs.Meaning.{clauses}
use Rattle.claims.proofs.ModelLaws.{none_false, some_false, model_none, model_cut, model_ends, model_fails}
use Rattle.claims.proofs.model.read_model.Goals as goal

pub returns-in_err-count : goal.returns-in_err-count
returns-in_err-count c =
    let p = err_from_is_err_and c.from_residual.result c.from_residual.ensures.1 in
    rw (p.1, p.2) (model_none (clauses c.args.entries.now) c.in_err-count.ensures)

pub returns-in_err-next : goal.returns-in_err-next
returns-in_err-next c =
    let p = err_from_is_err_and c.from_residual-in_err-next.result c.from_residual-in_err-next.ensures.1 in
    rw (p.1, p.2) (model_cut (clauses c.args.entries.now) c.in_ok-count.ensures c.in_err-next.ensures)

pub returns-in-None : goal.returns-in-None
returns-in-None c =
    let F = clauses c.args.entries.now in
    model_ends F c.in_ok-count.ensures c.in_ok-next.ensures (none_false _ F (sym c.first_false.ensures ∙ c.in-None.is))

pub returns-in-Some : goal.returns-in-Some
returns-in-Some c =
    let F = clauses c.args.entries.now in
    model_fails F c.in_ok-count.ensures c.in_ok-next.ensures (some_false _ F (sym c.first_false.ensures ∙ c.in-Some.is))
