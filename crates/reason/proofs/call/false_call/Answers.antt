-- `call::false_call` meets its contract: the clause behind the last one is the literal's negation. Assumes nothing.
use mathlib.Core.Path.{refl}
use Rattle.reason.proofs.CallLaws.{ends_same, falsified_is, over_marked, clauses_with_lem}
use Rattle.reason.proofs.call.false_call.Goals as goal

pub blank_call-requires : goal.blank_call-requires
blank_call-requires c =
    let s = c.before in
    over_marked s.requires c.find_starts-count.ensures _ (falsified_is s.args.literal.0 _ s.requires.literal_up_to s.requires.vars_fit c.negated.ensures)

pub returns : goal.returns
returns c =
    let s = c.before in
    ends_same s.args.meter.spent
    (clauses_with_lem s.requires c.find_starts-count.ensures _ (falsified_is s.args.literal.0 _ s.requires.literal_up_to s.requires.vars_fit c.negated.ensures))
    refl c.blank_call.ensures
