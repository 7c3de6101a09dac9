-- `next::next_call` meets its contract: what comes of the call, by what it ended with. Assumes nothing.
use mathlib.Core.Path.{sym, ◌∙◌}
use native.Mathlib.Omega.{arith}
use Rattle.calls.proofs.CallLaws.{size_le}
use Rattle.calls.proofs.NextLaws.{ready_at, ready_made, call_made, on_model, on_none, on_stopped}
use Rattle.calls.proofs.next.next_call.Goals as goal

pub chunk_in-end-requires : goal.chunk_in-end-requires
chunk_in-end-requires c =
    let o = c.requires.0.over in
    let ready = ready_at c.requires.0 (record { chunk = 0; spent = c.args.t.tries }) (omega arith) in (
      record {
        formula = rw o.values_len o.formula;
        first_len = ready.len ∙ sym o.values_len;
        status_len = sym o.values_len;
        chunk_most = omega (arith, c.min-chunk.ensures, ready.candidates_are);
      },
      rw o.values_len c.requires.1,
    )

pub after_model-requires : goal.after_model-requires
after_model-requires c =
    let len = c.chunk_in-end.auto.values ∙ c.requires.0.over.values_len in
    record { formula = rw len c.requires.0.over.formula; tally = ready_made c.requires.0 c.chunk_in-end.ensures.called; model_len = len }

pub after_none-requires : goal.after_none-requires
after_none-requires c =
    let o = c.requires.0.over in
    record {
      tally = ready_made c.requires.0 c.chunk_in-end.ensures.called;
      chunk_most = omega (arith, c.min-chunk.ensures);
      size_fit = omega (arith, size_le o.allowed.some o.here.reached, o.allowed.most);
    }

pub row_only-requires : goal.row_only-requires
row_only-requires c =
    (ready_made c.requires.0 c.chunk_in-end.ensures.called).row

pub returns-in-Model : goal.returns-in-Model
returns-in-Model c =
    record {
      called =
          λ w. on_model _ _ c.args.limits w (call_made c.requires.0 c.chunk_in-end.ensures.called c.min-chunk.ensures) c.in-Model.is c.after_model.ensures;
      kept = rw c.requires.0.over.values_len at c.chunk_in-end.ensures.kept;
      same = c.chunk_in-end.ensures.same;
    }

pub returns-in-NoModel : goal.returns-in-NoModel
returns-in-NoModel c =
    record {
      called =
          λ w. on_none _ _ c.args.limits w (call_made c.requires.0 c.chunk_in-end.ensures.called c.min-chunk.ensures) c.in-NoModel.is c.after_none.ensures;
      kept = rw c.requires.0.over.values_len at c.chunk_in-end.ensures.kept;
      same = c.chunk_in-end.ensures.same;
    }

pub returns-in-Stopped : goal.returns-in-Stopped
returns-in-Stopped c =
    record {
      called =
          λ w. on_stopped _ _ c.args.limits w (call_made c.requires.0 c.chunk_in-end.ensures.called c.min-chunk.ensures) c.in-Stopped.is c.row_only.ensures;
      kept = rw c.requires.0.over.values_len at c.chunk_in-end.ensures.kept;
      same = c.chunk_in-end.ensures.same;
    }
