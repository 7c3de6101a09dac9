-- `ask::second_call` meets its contract: the answer by what the call with the literal false ends with. Assumes nothing.
use mathlib.Core.Path.{◌≡◌, ◌∙◌, ap}
use Rattle.rules.specs.Meaning.{clauses}
use Rattle.rules.specs.Why.{first_marks}
use lib.ListN.{length}
use Rattle.reason.proofs.AskLaws.{second_marks, second_false, second_none, second_stopped}
use Rattle.reason.proofs.ask.second_call.Goals as goal

pub returns-in-Model : goal.returns-in-Model
returns-in-Model c =
    let all : c.mark_first.new.marks ≡ first_marks (length (clauses c.args.entries.now)) =
    let p = c.requires in
    second_marks c.args.asking.count p.2 p.0.asks.marks_are c.mark_first.ensures ∙ ap first_marks p.1 in
    second_false c.args.entries.now (length c.args.values.now) c.args.asking.literal.0 c.args.asking.meter all
    c.marked_call-end.ensures
    c.in-Model.is
    (c.mark_first.auto.marks ∙ c.requires.0.asks.marks_are)
    (c.fill.ensures.after (λ y e. e)) c.write_bits.ensures

pub returns-in-NoModel : goal.returns-in-NoModel
returns-in-NoModel c =
    let all : c.mark_first.new.marks ≡ first_marks (length (clauses c.args.entries.now)) =
    let p = c.requires in
    second_marks c.args.asking.count p.2 p.0.asks.marks_are c.mark_first.ensures ∙ ap first_marks p.1 in
    second_none c.args.entries.now (length c.args.values.now) c.args.asking.literal.0 c.args.asking.meter all
    c.marked_call-end.ensures
    c.in-NoModel.is
    c.marked_call-end.auto.values c.requires.1 c.visit_all.ensures

pub returns-in-Stopped : goal.returns-in-Stopped
returns-in-Stopped c =
    let all : c.mark_first.new.marks ≡ first_marks (length (clauses c.args.entries.now)) =
    let p = c.requires in
    second_marks c.args.asking.count p.2 p.0.asks.marks_are c.mark_first.ensures ∙ ap first_marks p.1 in
    second_stopped c.args.entries.now (length c.args.values.now) c.args.asking.literal.0 c.args.asking.meter all
    c.marked_call-end.ensures c.in-Stopped.is
    (c.mark_first.auto.marks ∙ c.requires.0.asks.marks_are) (c.fill-in-Stopped.ensures.after (λ y e. e))
