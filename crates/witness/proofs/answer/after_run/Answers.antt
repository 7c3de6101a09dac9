-- `answer::after_run` meets its contract: what the run left says whether the variable is free, and what is put then. Assumes nothing.
use mathlib.Core.Path.{refl, sym, ◌∙◌}
use lib.ListN.{length}
use Rattle.backbone.specs.First.{HintsDone}
use Rattle.witness.proofs.AnswerLaws.{free_known, shown_by_lem, not_shown}
use Rattle.witness.proofs.answer.after_run.Goals as goal

pub put_models-requires : goal.put_models-requires
put_models-requires c =
    let done : HintsDone c.args.entries.now (length c.args.first.now) c.args.limits c.accepted_run-report.result c.accepted_run-report.new.first
    c.accepted_run-report.new.status c.accepted_run-report.new.calls c.accepted_run-report.new.ways c.accepted_run-report.new.hints
    c.accepted_run-report.new.log =
    rw c.requires.first_len c.accepted_run-report.ensures in
    let p = c.requires in
    let kept = c.accepted_run-report.auto in
    free_known done p.taken.allowed _ (sym c.is_free.ensures ∙ c.if-is_free.true) (kept.status ∙ sym p.first_len)
    (p.values_len ∙ sym p.first_len) refl (p.witness_len ∙ sym p.first_len) (kept.ways ∙ p.taken.lent.ways_len ∙ sym p.first_len)
    (rw p.first_len p.taken.formula) p.taken.clauses_most

pub returns-then-is_free : goal.returns-then-is_free
returns-then-is_free c =
    let done : HintsDone c.args.entries.now (length c.args.first.now) c.args.limits c.accepted_run-report.result c.accepted_run-report.new.first
    c.accepted_run-report.new.status c.accepted_run-report.new.calls c.accepted_run-report.new.ways c.accepted_run-report.new.hints
    c.accepted_run-report.new.log =
    rw c.requires.first_len c.accepted_run-report.ensures in
    let p = c.requires in
    shown_by_lem done p.taken.allowed _ (sym c.is_free.ensures ∙ c.if-is_free.true)
    (rw (c.accepted_run-report.auto.status ∙ sym p.first_len) at c.put_models.ensures)

pub returns : goal.returns
returns c =
    let done : HintsDone c.args.entries.now (length c.args.first.now) c.args.limits c.accepted_run-report.result c.accepted_run-report.new.first
    c.accepted_run-report.new.status c.accepted_run-report.new.calls c.accepted_run-report.new.ways c.accepted_run-report.new.hints
    c.accepted_run-report.new.log =
    rw c.requires.first_len c.accepted_run-report.ensures in
    not_shown done c.requires.taken.allowed _ (sym c.is_free.ensures ∙ c.if-is_free.false) c.not_free.ensures
