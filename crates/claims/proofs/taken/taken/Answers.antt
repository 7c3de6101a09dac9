-- `claims::taken::taken` meets its contract: what stands next, unless it is at fault. Assumes nothing.
use mathlib.Core.Path.{sym, ◌∙◌}
use Rattle.std.proofs.lemmas.Result.{err_from_is_err_and}
use Rattle.claims.proofs.TakenLaws.{taken_stop, taken_fault, taken_number}
use Rattle.claims.proofs.taken.taken.Goals as goal

pub returns-in_err-spot : goal.returns-in_err-spot
returns-in_err-spot c =
    let p = err_from_is_err_and c.from_residual.result c.from_residual.ensures.1 in
    rw (p.1, p.2) (taken_stop c.args.due c.in_err-spot.ensures)

pub returns-then-is_faulty : goal.returns-then-is_faulty
returns-then-is_faulty c =
    taken_fault c.args.due _ c.in_ok-spot.ensures (sym c.is_faulty.ensures ∙ c.if-is_faulty.true)

pub returns : goal.returns
returns c =
    taken_number c.args.due _ c.in_ok-spot.ensures (sym c.is_faulty.ensures ∙ c.if-is_faulty.false)
