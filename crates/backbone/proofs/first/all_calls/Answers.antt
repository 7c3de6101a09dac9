-- `first::all_calls` meets its contract: the run, by what its first call ended with. Assumes nothing.
use mathlib.Core.Path.{refl, ◌∙◌}
use native.Mathlib.Omega.{arith}
use lib.ListN.{length}
use Rattle.rules.specs.Run.{Task, blank, first_call}
use Rattle.search.specs.Calls.{CallEnds}
use Rattle.calls.specs.Next.{task}
use Rattle.search.proofs.EndLaws.{was_model}
use Rattle.backbone.proofs.FirstLaws.{kept_len, row_begun, first_called, done_by_row}
use Rattle.backbone.proofs.first.all_calls.Goals as goal

pub first_in-end-requires : goal.first_in-end-requires
first_in-end-requires c =
    let p = c.requires.0 in
    (rw p.values_len p.begins.formula, rw p.values_len c.requires.1)

pub settle-requires : goal.settle-requires
settle-requires c =
    let the_task : Task =
    task c.args.entries.now (length c.args.status.now) c.args.limits in
    let ended : CallEnds (first_call the_task) (blank (length c.args.values.now)) c.args.limits.budget c.first_in-end.result
    c.first_in-end.new.values =
    first_called c.args.entries.now c.args.limits c.requires.0.values_len c.first_in-end.ensures.0 in
    let p = c.requires.0 in (
      record {
        begins = p.begins;
        values_len = c.first_in-end.auto.values ∙ p.values_len;
        found = was_model ended c.in-Model.is;
      },
      kept_len p.values_len c.first_in-end.ensures.1,
    )

pub returns-in-Model : goal.returns-in-Model
returns-in-Model c =
    c.settle.ensures

pub overflow_cast-status : goal.overflow_cast-status
overflow_cast-status c =
    let s = c.before.before in
    omega (arith, s.requires.0.begins.formula.vars_fit)

pub row_only-requires : goal.row_only-requires
row_only-requires c =
    let s = c.before.before in
    row_begun s.requires.0.begins.cleared _ c.started.ensures _

pub returns : goal.returns
returns c =
    let the_task : Task =
    task c.args.entries.now (length c.args.status.now) c.args.limits in
    let ended : CallEnds (first_call the_task) (blank (length c.args.values.now)) c.args.limits.budget c.first_in-end.result
    c.first_in-end.new.values =
    first_called c.args.entries.now c.args.limits c.requires.0.values_len c.first_in-end.ensures.0 in
    done_by_row c.args.entries.now c.args.limits _ c.requires.0.begins.cleared c.started.ensures refl ended
    c.in_default.not-Model c.row_only.ensures
