-- `next::run_calls` meets its contract. Assumes nothing.
use mathlib.Core.Path.{sym, ◌∙◌}
use Rattle.search.proofs.RoomLaws.{rooms_self, rooms_then}
use Rattle.calls.proofs.LoopLaws.{kept_start, first_length, going_step, going_less, going_end, going_done, kept_step, kept_end, kept_done}
use Rattle.calls.proofs.next.run_calls.Goals as goal

pub loop-tally-init : goal.loop-tally-init
loop-tally-init c =
    (kept_start _ _ _ _ _ _ _ _ _, c.requires.1, rooms_self)

pub next_call-requires : goal.next_call-requires
next_call-requires c =
    let p = c.requires.0.over in
    let l = c.loop-tally.invariant.0.running in (
      record {
        over =
            record {
              formula = rw l.status_len p.formula;
              values_len = l.values_len ∙ p.values_len ∙ sym l.status_len;
              allowed = p.allowed;
              here = rw l.status_len (l.going p.here).here;
            };
        some = c.loop-tally-test.true;
      },
      rw l.status_len c.loop-tally.invariant.1,
    )

pub put_records-requires : goal.put_records-requires
put_records-requires c =
    let s = c.requires.0 in
    let w = c.loop-tally.invariant.0 in
    let kept = c.next_call.auto in
    let status_len = kept.status ∙ w.running.status_len in
    record {
      first_len = first_length s.over.here ∙ sym status_len;
      model_len = kept.values ∙ w.running.values_len ∙ s.over.values_len ∙ sym status_len;
      calls_len = w.calls_len ∙ s.lent.calls_len ∙ sym status_len;
      ways_len = w.ways_len ∙ s.lent.ways_len ∙ sym status_len;
    }

pub loop-tally-smaller : goal.loop-tally-smaller
loop-tally-smaller c =
    let p = c.requires.0.over in
    let l = c.loop-tally.invariant.0.running in
    going_less p.allowed.some l.going (rw l.status_len at c.next_call.ensures.called) c.in-Continue.is p.here

pub loop-tally-preserved : goal.loop-tally-preserved
loop-tally-preserved c =
    let p = c.requires.0.over in
    let w = c.loop-tally.invariant.0 in
    let l = w.running in
    let kept = c.next_call.auto in
    let ensured = rw l.status_len at c.next_call.ensures.called in (
      record {
        running =
            record {
              status_len = kept.status ∙ l.status_len;
              log_len = kept.log ∙ l.log_len;
              values_len = kept.values ∙ l.values_len;
              going = going_step p.allowed.some l.going ensured c.in-Continue.is;
            };
        calls_len = c.put_records.auto.calls ∙ w.calls_len;
        ways_len = c.put_records.auto.ways ∙ w.ways_len;
        shown =
            kept_step p.allowed.some l.going ensured c.loop-tally-test.true w.shown c.in-Continue.is
            c.put_records.ensures;
      },
      rw l.status_len at c.next_call.ensures.kept,
      rooms_then c.loop-tally.invariant.2 c.next_call.ensures.same,
    )

pub returns-in-Break : goal.returns-in-Break
returns-in-Break c =
    let p = c.requires.0.over in
    let w = c.loop-tally.invariant.0 in
    let l = w.running in
    let ensured = rw l.status_len at c.next_call.ensures.called in
    record {
      run =
          record {
            ends = λ v. going_end p.allowed.some l.going ensured c.in-Break.is v;
            records =
                λ v x. kept_end p.allowed.some l.going ensured c.loop-tally-test.true w.shown
                c.in-Break.is v x;
          };
      kept = rw l.status_len at c.next_call.ensures.kept;
      same = rooms_then c.loop-tally.invariant.2 c.next_call.ensures.same;
    }

pub returns : goal.returns
returns c =
    let p = c.requires.0.over in
    let w = c.loop-tally.invariant.0 in
    record {
      run =
          record {
            ends = λ v. going_done p.allowed.some w.running.going c.loop-tally-test.false v;
            records = λ v x. kept_done p.allowed.some w.running.going c.loop-tally-test.false v (w.shown v x);
          };
      kept = c.loop-tally.invariant.1;
      same = c.loop-tally.invariant.2;
    }
