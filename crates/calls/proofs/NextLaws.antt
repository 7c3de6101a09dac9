-- The laws of one call of a run, as `next_call` makes it: from a progress that the run comes to, with candidates left.
--
--   call_is           the call that code makes is that of rules/specs/Run
--   call_up           a call spends no less than was spent
--   suc_pred          a number that is not 0
--   CallMade          the call as code has made it
--   ready_at, ready_made, call_made     what a call that is due has, before and behind it
--   on_model, on_none, on_stopped     what comes of it, by what it ended with
--
-- Assumes nothing.
use mathlib.Core.Path.{◌≡◌, refl, sym, ◌∙◌, ap}
use mathlib.Core.List.{List}
use Prim.Native.Nat.{ℕ, zero, suc, pred, ◌+◌, ◌*◌, ◌≤◌, min}
use native.Mathlib.Omega.{arith}
use lib.IntN.{ℤ}
use lib.ListN.{length}
use Rattle.rules.specs.declared.Outcome.{Outcome}
use Rattle.rules.specs.declared.RunAnswer.{RunAnswer}
use Rattle.rules.specs.declared.Report.{Report}
use Rattle.rules.specs.Meaning.{Values, clauses}
use Rattle.rules.specs.Search.{Call}
use Rattle.rules.specs.Run.{Task, Progress, opens, forced_values, chunk_call, after_model, after_none, after_stop, Ended, ended_by, on_call, on_open}
use Rattle.rules.specs.Trace.{next_model, next_none}
use Rattle.rules.proofs.SearchLaws.{call_on_tries}
use Rattle.rules.proofs.KnownLaws.{first_model_is}
use Rattle.rules.proofs.RunTrace.{takes_min, doubled_min, known, size_pos, model_drops, none_forces}
use Rattle.search.specs.declared.meter.Meter.{Meter}
use Rattle.search.specs.declared.call.CallEnd.{CallEnd}
use Rattle.search.specs.Calls.{CallEnds, values_after}
use Rattle.calls.specs.declared.after.Tally.{Tally}
use Rattle.calls.specs.declared.after.Made.{Made}
use Rattle.calls.specs.declared.next.Limits.{Limits}
use Rattle.std.specs.declared.ops.ControlFlow.TheVariants.{Continue, Break}
use Rattle.calls.specs.After.{TallyReady, ModelLeft, NoneLeft, RowLeft}
use Rattle.calls.specs.Next.{At, CallDue, Called, ChunkCalled, chunk_clauses, chunk_on, goes_on, ends, task}
use Rattle.calls.proofs.AfterLaws.{shows_model, shows_none, ends_row}
use Rattle.search.proofs.EndLaws.{was_model, was_none, was_stopped}
use Rattle.calls.proofs.CallLaws.{call_next, tally_ready}

pub call_up : (es : List ℤ) (first : Values) (status : List ℕ) (chunk : ℕ) (meter : Meter) {vs after : Values} {budget : ℕ} {r : CallEnd}
    → CallEnds (chunk_on es first status chunk meter) vs budget r after → meter.spent ≤ r.meter.spent
call_up es first status chunk meter w = omega (
  arith,
  w.spent_is,
  (call_on_tries meter.budget (chunk_clauses es first status chunk) (forced_values status) meter.spent).up,
)

pub suc_pred : (m : ℕ) → 1 ≤ m → m ≡ suc (pred m)
suc_pred zero h = absurd (omega arith)
suc_pred (suc m) h = refl

-- the meter of a call
abbrev pub meter_of : Limits → Tally → Meter
meter_of limits t = record { budget = limits.budget; spent = t.tries }

-- a call that code has made, with candidates left and room for its row
pub record CallMade (es : List ℤ) (limits : Limits) (t : Tally) (first : Values) (status log : List ℕ) (chunk : ℕ) (r : CallEnd) (after : Values)
    : Type 0 where
  pub some_limit : 1 ≤ limits.chunk
  pub some : 1 ≤ t.candidates
  pub room : 6 * (t.calls + 1) ≤ length log
  pub chunk_is : chunk ≡ min t.size t.candidates
  pub ended : ChunkCalled es first status chunk (meter_of limits t) r after

-- of a call that is due: no count is out of range behind it, and it is made so
module _ {es : List ℤ} {starts : List ℕ} {first : Values} {status log : List ℕ} {values : Values} {t : Tally} {limits : Limits}
    (d : CallDue es starts first status log values t limits) where
  pub ready_at : (made : Made) → t.tries ≤ made.spent → TallyReady first status log t made
  ready_at = tally_ready d.over.allowed.some d.over.formula.vars_fit d.over.here d.some

  module _ {chunk : ℕ} {r : CallEnd} {after : Values} (e : ChunkCalled es first status chunk (meter_of limits t) r after) where
    pub ready_made : TallyReady first status log t (record { chunk = chunk; spent = r.meter.spent })
    ready_made = ready_at (record { chunk = chunk; spent = r.meter.spent }) (call_up es first status chunk (meter_of limits t) e)

    pub call_made : chunk ≡ min t.size t.candidates → CallMade es limits t first status log chunk r after
    call_made q =
        record { some_limit = d.over.allowed.some; some = d.some; room = ready_made.row.log_room_lem; chunk_is = q; ended = e }

module _ (es : List ℤ) (vars : ℕ) (limits : Limits) {t : Tally} {first status log : List ℕ} (w : At (task es vars limits) t first status log) where
  abbrev k : Task
  k = task es vars limits

  abbrev p : Progress
  p = w.progress

  pub call_is : (chunk : ℕ) → chunk_on es first status chunk (meter_of limits t) ≡ chunk_call k p chunk
  unfolding chunk_call
  call_is chunk =
      let x = w.shows in
      ap (λ (m : Values). chunk_on es m status chunk (meter_of limits t)) x.first_is ∙
      ap (λ (ss : List ℕ). chunk_on es p.first ss chunk (meter_of limits t)) x.status_is ∙
      ap (λ (n : ℕ). chunk_on es p.first p.statuses chunk (record { budget = limits.budget; spent = n })) x.tries_is

  module _ {chunk : ℕ} {r : CallEnd} {after : Values} (d : CallMade es limits t first status log chunk r after)
    where
      abbrev n : ℕ
      n = pred (opens p.statuses)

      -- the chunk as the rules take it
      abbrev taken : ℕ
      taken = min t.size (suc n)

      -- the call as code has made it
      abbrev made : Made
      made = record { chunk = chunk; spent = r.meter.spent }

      opens_are : opens p.statuses ≡ suc n
      opens_are = suc_pred (opens p.statuses) (omega (arith, w.shows.candidates_are, d.some))

      same : chunk ≡ taken
      same = d.chunk_is ∙ ap (min t.size) (w.shows.candidates_are ∙ opens_are)

      call : {c : Call} → chunk_on es first status chunk (meter_of limits t) ≡ c → chunk_call k p taken ≡ c
      call q = ap (chunk_call k p) (sym same) ∙ sym (call_is chunk) ∙ q

      -- what the run goes on from, or ends in
      on_next : {c : Call} → chunk_on es first status chunk (meter_of limits t) ≡ c → (next : ℕ → Progress → Ended)
          → on_open (opens p.statuses) k t.size p next ≡ on_call c k p t.size taken next
      on_next q = call_next k t.size p opens_are (call q)

      values_left : after ≡ values_after (chunk_call k p (min t.size (opens p.statuses))) (forced_values p.statuses)
      values_left =
          d.ended.values_are ∙
          ap (λ (c : Call). values_after c (forced_values status))
          (call_is chunk ∙ ap (chunk_call k p) (d.chunk_is ∙ ap (min t.size) w.shows.candidates_are)) ∙
          ap (λ (ss : List ℕ). values_after (chunk_call k p (min t.size (opens p.statuses))) (forced_values ss)) w.shows.status_is

      pub on_model : r.outcome ≡ Outcome.Model → {u : Tally} {m status' log' : List ℕ}
          → ModelLeft (clauses es) first after status log t made u m status' log'
          → Called k t.size p first (Continue u) status' log' m
      on_model o {u} l =
          let (z, x) = shows_model k p t w.shows d.room refl l in
          let q = was_model d.ended o in
          let y = next_model after r.meter.spent w.reached (takes_min t.size p opens_are) (call q) in
          let there = after_model k p taken after r.meter.spent in
          record {
            next =
                goes_on {t = u} (record { progress = there; reached = rw z y; shows = rw same at x })
                (model_drops taken after r.meter.spent w.reached (call q))
                (λ next. on_next q next ∙ ap (λ (j : ℕ). next j there) (sym z));
            values_are = l.flips.model_same ∙ values_left;
          }

      pub on_none : r.outcome ≡ Outcome.NoModel → {u : Tally} {status' log' : List ℕ}
          → NoneLeft first status log t made limits.chunk u status' log'
          → Called k t.size p first (Continue u) status' log' after
      on_none o {u} l =
          let here = known w.reached in
          let (z, x) = shows_none k p t w.shows d.room ((first_model_is here).len ∙ sym here.len) (omega (arith, same, opens_are)) l in
          let q = was_none d.ended o in
          let y = next_none r.meter.spent w.reached (takes_min t.size p opens_are) (call q) (doubled_min t.size limits.chunk) in
          let there = after_none p taken r.meter.spent in
          let fewer = (none_forces taken w.reached (omega (arith, opens_are))).opens_less in
          record {
            next =
                goes_on {t = u} (record { progress = there; reached = rw z y; shows = rw same at x })
                (omega (arith, size_pos d.some_limit w.reached, fewer, opens_are))
                (λ next. on_next q next ∙ ap (λ (j : ℕ). next j there) (sym z));
            values_are = values_left;
          }

      pub on_stopped : r.outcome ≡ Outcome.Stopped → {u : Report} {log' : List ℕ}
          → RowLeft log t Outcome.Stopped made u log'
          → Called k t.size p first (Break u) status log' after
      on_stopped o {u} l =
          let x = ends_row k p t w.shows d.room Outcome.Stopped l in
          record {
            next = ends {r = u} (ended_by RunAnswer.Stopped (after_stop p taken r.meter.spent)) (rw same at x) (on_next (was_stopped d.ended o));
            values_are = values_left;
          }
