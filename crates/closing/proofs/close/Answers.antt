-- `close` meets its contract: what is refused writes nothing; what is accepted writes the front of the values. Assumes nothing.
use mathlib.Core.Path.{sym, ◌∙◌}
use Rattle.rules.specs.Setup.{setup_refusal}
use Rattle.rules.specs.Close.{close_given, close_setup, close_refusal}
use Rattle.setup.proofs.SetupLaws.{taken}
use Rattle.closing.proofs.CloseLaws.{closes_refused, closes_accepted}
use Rattle.closing.proofs.close.Goals as goal

pub returns-in-Err : goal.returns-in-Err
unfolding setup_refusal close_refusal
returns-in-Err c = closes_refused _ (sym c.in-Err.is ∙ c.refuse.ensures)

pub with_held-requires : goal.with_held-requires
unfolding setup_refusal
with_held-requires c =
    let a = c.args in
    taken (close_setup (close_given a.entries.now a.vars a.held.now a.values.now)) (sym c.in_default.is ∙ c.refuse.ensures)

pub returns : goal.returns
unfolding setup_refusal
returns c = closes_accepted _ (sym c.in_default.is ∙ c.refuse.ensures) c.with_held.ensures
