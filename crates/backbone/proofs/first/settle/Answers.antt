-- `first::settle` meets its contract: the run is where its first call has brought it, and the other calls follow from there.
-- Assumes nothing.
use mathlib.Core.Path.{sym, ◌∙◌, ap}
use lib.ListN.{length}
use Rattle.rules.specs.Search.{Call}
use Rattle.search.specs.Calls.{values_after}
use Rattle.calls.specs.Next.{task}
use Rattle.backbone.proofs.FirstLaws.{ready_begun, shows_none, cleared_lent, records_first}
use Rattle.backbone.proofs.FirstLaws.{model_kept, settled, settled_at, done_from_model, records_from_model}
use Rattle.backbone.proofs.first.settle.Goals as goal

pub after_model-next-requires : goal.after_model-next-requires
after_model-next-requires c =
    let kept_model = model_kept c.requires.0 c.copy_first.ensures in
    let b = c.requires.0.begins in
    let n = c.requires.0.values_len in
    record {
      formula = rw n b.formula;
      tally = ready_begun b.cleared _ c.started-t.ensures (ap length kept_model ∙ n) n b.formula.vars_fit _;
      model_len = n;
    }

pub put_records-requires : goal.put_records-requires
put_records-requires c =
    let kept_model = model_kept c.requires.0 c.copy_first.ensures in
    let kept = c.after_model-next.auto in
    let len = kept.status in
    let lent = cleared_lent c.requires.0.begins.cleared in
    record {
      first_len = ap length kept_model ∙ c.requires.0.values_len ∙ sym len;
      model_len = kept.model ∙ c.requires.0.values_len ∙ sym len;
      calls_len = lent.calls_len ∙ sym len;
      ways_len = lent.ways_len ∙ sym len;
    }

pub run_calls-requires : goal.run_calls-requires
run_calls-requires c =
    let kept = c.after_model-next.auto in
    let len = kept.status in
    let lent = cleared_lent c.requires.0.begins.cleared in (
      record {
        over =
            record {
              formula = rw len c.requires.0.begins.formula;
              values_len = kept.model ∙ c.requires.0.values_len ∙ sym len;
              allowed = c.requires.0.begins.allowed;
              here = rw len (settled_at c.requires.0 c.copy_first.ensures c.started-t.ensures c.after_model-next.ensures);
            };
        lent =
            record {
              calls_len = c.put_records.auto.calls ∙ lent.calls_len ∙ sym len;
              ways_len = c.put_records.auto.ways ∙ lent.ways_len ∙ sym len;
            };
      },
      rw len c.requires.1,
    )

pub returns : goal.returns
returns c =
    let k = task c.args.entries.now (length c.args.status.now) c.args.limits in
    let m = c.args.values.now in
    let kept_model = model_kept c.requires.0 c.copy_first.ensures in
    let there = settled c.requires.0 c.copy_first.ensures c.started-t.ensures c.after_model-next.ensures in
    let shown =
    records_first k m c.args.spent (shows_none c.requires.0.begins.cleared) there.1.calls_is kept_model
    c.after_model-next.ensures.flips.model_same there.1.status_is c.put_records.ensures in
    let found = c.requires.0.found in
    let len = c.after_model-next.auto.status in
    let ends = rw len at c.run_calls.ensures.run.ends in
    let records = rw len at c.run_calls.ensures.run.records in
    let here = settled_at c.requires.0 c.copy_first.ensures c.started-t.ensures c.after_model-next.ensures in
    record {
      done = done_from_model k m c.args.spent found there.0 (ends here);
      records = records_from_model k m c.args.spent found there.0 (records here shown);
      first_is = kept_model ∙ ap (λ (x : Call). values_after x c.args.first.now) (sym found);
    }
