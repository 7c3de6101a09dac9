-- `formula::state::state_of` meets its contract. By the three tests in turn: a true literal, a first unset one, another unset one.
-- Assumes nothing.
use mathlib.Core.Path.{◌≡◌, sym, ◌∙◌}
use mathlib.Core.Bool.{not}
use Rattle.rules.specs.Closing.{state_of, unit_if}
use Rattle.formula.proofs.StateLaws.{state_of_true, state_of_none, state_of_first}
use Rattle.formula.proofs.state.state_of.Goals as goal

pub returns-then-has_true : goal.returns-then-has_true
returns-then-has_true c =
    let args = c.args in
    sym (state_of_true args.values.now args.clause.now (sym c.has_true.ensures ∙ c.if-has_true.true))

pub returns-in-None : goal.returns-in-None
returns-in-None c =
    let args = c.args in
    sym (state_of_none args.values.now args.clause.now (sym c.has_true.ensures ∙ c.if-has_true.false)
    (sym c.first_unset.ensures ∙ c.in-None.is))

pub returns-then-has_other_unset : goal.returns-then-has_other_unset
returns-then-has_other_unset c =
    let decided : state_of c.args.values.now
    c.args.clause.now
    ≡ unit_if (not c.has_other_unset.result) c.in-Some.l.0 =
    let args = c.args in
    let l = c.in-Some.l in
    rw c.has_other_unset.ensures (state_of_first args.values.now args.clause.now l (sym c.has_true.ensures ∙ c.if-has_true.false)
    (sym c.first_unset.ensures ∙ c.in-Some.is)) in
    sym (rw c.if-has_other_unset.true at decided)

pub returns-else-has_other_unset : goal.returns-else-has_other_unset
returns-else-has_other_unset c =
    let decided : state_of c.args.values.now
    c.args.clause.now
    ≡ unit_if (not c.has_other_unset.result) c.in-Some.l.0 =
    let args = c.args in
    let l = c.in-Some.l in
    rw c.has_other_unset.ensures (state_of_first args.values.now args.clause.now l (sym c.has_true.ensures ∙ c.if-has_true.false)
    (sym c.first_unset.ensures ∙ c.in-Some.is)) in
    sym (rw c.if-has_other_unset.false at decided)
