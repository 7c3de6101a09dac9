-- `answer::put_models` meets its contract: the first model, and the witness by the call's model and the way. Assumes nothing.
use mathlib.Core.Path.{sym, ◌∙◌}
use native.Mathlib.Omega.{arith}
use Rattle.witness.proofs.AgainLaws.{calls_len, first_len}
use Rattle.witness.proofs.AnswerLaws.{ways_length, models_put}
use Rattle.witness.proofs.answer.put_models.Goals as goal

pub put_literals-requires : goal.put_literals-requires
put_literals-requires c =
    record { len = first_len c.requires.call ∙ sym c.requires.first_len; vars_fit = omega (arith, c.requires.first_len, c.requires.call.formula.vars_fit) }

pub bounds-calls-i : goal.bounds-calls-i
bounds-calls-i c =
    omega (arith, c.requires.within, calls_len c.requires.call)

pub bounds-ways-i : goal.bounds-ways-i
bounds-ways-i c =
    omega (arith, c.requires.within, ways_length c.requires)

pub returns : goal.returns
returns c =
    models_put c.requires c.put_literals.ensures c.model_of_call.ensures c.put_witness.ensures
