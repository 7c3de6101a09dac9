-- `setup` meets its contract: what is refused writes nothing; what is accepted writes the front of the values. Assumes nothing.
use mathlib.Core.Path.{sym, ◌∙◌}
use Rattle.rules.specs.Setup.{setup_given, setup_refusal}
use Rattle.setup.proofs.SetupLaws.{taken, sets_up_refused, sets_up_accepted}
use Rattle.setup.proofs.setup.Goals as goal

pub returns-in-Err : goal.returns-in-Err
unfolding setup_refusal
returns-in-Err c = sets_up_refused _ (sym c.in-Err.is ∙ c.refuse.ensures)

pub with_held-requires : goal.with_held-requires
unfolding setup_refusal
with_held-requires c =
    let a = c.args in
    taken (setup_given a.entries.now a.vars a.held.now a.budget a.values.now) (sym c.in_default.is ∙ c.refuse.ensures)

pub returns : goal.returns
unfolding setup_refusal
returns c = sets_up_accepted _ (sym c.in_default.is ∙ c.refuse.ensures) c.with_held.ensures
