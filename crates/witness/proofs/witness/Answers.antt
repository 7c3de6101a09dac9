-- `witness` meets its contract: what is refused writes nothing; what is accepted writes the fronts of both buffers. Assumes nothing.
use mathlib.Core.Path.{sym, ◌∙◌}
use Rattle.rules.specs.Witness.{asked}
use Rattle.witness.proofs.WitnessLaws.{checked_is, accepted, asked_over, witnesses_refused, witnesses_answered}
use Rattle.witness.proofs.witness.Goals as goal

pub returns-in-Err : goal.returns-in-Err
returns-in-Err c =
    let a = c.args in
    let given = asked a.entries.now a.vars a.held.now a.budget a.chunk_limit a.variable a.first.now a.witness.now in
    witnesses_refused given
    (sym c.in-Err.is ∙ checked_is given c.out_of_limits-bad_limits.ensures c.few_literals-short.ensures c.refuse.ensures)

pub with_held-requires : goal.with_held-requires
with_held-requires c =
    let a = c.args in
    let given = asked a.entries.now a.vars a.held.now a.budget a.chunk_limit a.variable a.first.now a.witness.now in
    asked_over given
    (accepted given
    (sym c.in_default.is ∙ checked_is given c.out_of_limits-bad_limits.ensures c.few_literals-short.ensures c.refuse.ensures))

pub returns : goal.returns
returns c =
    let a = c.args in
    let given = asked a.entries.now a.vars a.held.now a.budget a.chunk_limit a.variable a.first.now a.witness.now in
    witnesses_answered given
    (sym c.in_default.is ∙ checked_is given c.out_of_limits-bad_limits.ensures c.few_literals-short.ensures c.refuse.ensures)
    c.with_held.ensures
