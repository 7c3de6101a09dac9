-- `held::refuse_held` meets its contract: each way out by the law of its rule. Assumes nothing.
use mathlib.Core.Path.{sym, ◌∙◌}
use Rattle.refusals.proofs.FoundLaws.{bad_held_found, held_found_lem}
use Rattle.refusals.proofs.held.refuse_held.Goals as goal

pub returns-in-Some : goal.returns-in-Some
returns-in-Some c =
    bad_held_found c.args.held.now c.args.vars c.if-held-gt-MAX_HELD.false c.in-Some.bad (sym c.first_bad_held.ensures ∙ c.in-Some.is)

pub returns : goal.returns
returns c =
    held_found_lem c.args.held.now c.args.vars c.if-held-gt-MAX_HELD.false (sym c.first_bad_held.ensures ∙ c.in_default.is)
