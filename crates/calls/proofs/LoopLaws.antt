-- The laws of the calls of a run, one after the other, as `run_calls` makes them.
--
--   Going             from every progress that the loop may have begun at, it has come to one that the run comes to, and what the run
--                     ends in is the same from both
--   Running           the invariant of the loop
--   going_start, going_step, going_less, going_end, going_done     the loop
--   Kept              the invariant with the records
--   kept_start, kept_step, kept_end, kept_done     and the loop with them
--   first_length      the first model is of the run's variables
--
-- Assumes nothing.
use mathlib.Core.Path.{◌≡◌, refl, ◌∙◌, ap}
use mathlib.Core.List.{List}
use Prim.Native.Nat.{ℕ, ◌≤◌, ◌<◌}
use native.Mathlib.Omega.{arith}
use lib.IntN.{ℤ}
use lib.ListN.{length}
use Rattle.rules.specs.declared.RunAnswer.{RunAnswer}
use Rattle.rules.specs.declared.Report.{Report}
use Rattle.rules.specs.Meaning.{Values}
use Rattle.rules.specs.Run.{Task, Progress, opens, Ended, ended_by, chunks, on_open}
use Rattle.rules.proofs.ListLaws.{apart}
use Rattle.rules.proofs.KnownLaws.{first_model_is}
use Rattle.rules.proofs.RunTrace.{known}
use Rattle.rules.proofs.RunNext.{chunks-next}
use Rattle.calls.specs.declared.after.Tally.{Tally}
use Rattle.calls.specs.declared.next.Limits.{Limits}
use Rattle.std.specs.declared.ops.ControlFlow.{ControlFlow}
use Rattle.std.specs.declared.ops.ControlFlow.TheVariants.{Continue, Break}
use Rattle.calls.specs.After.{EndsAt}
use Rattle.calls.specs.Next.{At, NextTo, goes_on, ends, Called, task}
use Rattle.calls.specs.Records.{ShowsRecords}
use Rattle.steps.specs.Records.{RecordsPut}
use Rattle.rules.proofs.RecordLaws.{known_records}
use Rattle.calls.proofs.AfterLaws.{ends_shown}
use Rattle.calls.proofs.RecordLaws.{records_next, records_end}

-- where the loop is, from the progress p where it began
pub record Come (k : Task) (size : ℕ) (p : Progress) (t : Tally) (first status log : List ℕ) : Type 0 where
  pub here : At k t first status log
  pub same : chunks k size p ≡ chunks k t.size here.progress

abbrev pub Going : Task → List ℕ → Tally → List ℕ → List ℕ → Tally → List ℕ → List ℕ → Type 0
Going k first t₀ status₀ log₀ t status log =
    (v : At k t₀ first status₀ log₀) → Come k t₀.size v.progress t first status log

pub going_start : (k : Task) (first : List ℕ) (t : Tally) (status log : List ℕ) → Going k first t status log t status log
going_start k first t status log v = record { here = v; same = refl }

-- the invariant of the loop: the buffers keep their lengths, and the run is where it was, or further
pub record Running (es : List ℤ) (limits : Limits) (first : Values) (t₀ : Tally) (status₀ log₀ values₀ : List ℕ)
    (t : Tally) (status log values : List ℕ) : Type 0 where
  pub status_len : length status ≡ length status₀
  pub log_len : length log ≡ length log₀
  pub values_len : length values ≡ length values₀
  pub going : Going (task es (length status₀) limits) first t₀ status₀ log₀ t status log

-- the run from p on, by its next call
abbrev onward : Task → ℕ → Progress → Ended
onward k size p = on_open (opens p.statuses) k size p (λ n q. chunks k n q)

-- what the call's answer says, by its cases
pub record Further (k : Task) (size : ℕ) (p : Progress) (first : List ℕ) (t : Tally) (status log : List ℕ) : Type 0 where
  pub there : At k t first status log
  pub fewer : opens there.progress.statuses < opens p.statuses
  pub goes : (next : ℕ → Progress → Ended) → on_open (opens p.statuses) k size p next ≡ next t.size there.progress

further : {k : Task} {size : ℕ} {p : Progress} {first : List ℕ} {r : ControlFlow Report Tally} {t : Tally} {status log : List ℕ}
    → NextTo k size p first r status log → r ≡ Continue t → Further k size p first t status log
further {k} {size} {p} {first} {r} {t} {status} {log} (goes_on {t = u} w o e) q =
    let same : u ≡ t = cc in rw (← same) (record { there = w; fewer = o; goes = e })
further (ends e x f) r = apart cc

ended_there : {k : Task} {size : ℕ} {p : Progress} {first : List ℕ} {r : ControlFlow Report Tally} {u : Report} {status log : List ℕ}
    → NextTo k size p first r status log → r ≡ Break u → EndsAt k.vars (onward k size p) u status log
ended_there (goes_on w o e) q = apart cc
ended_there {k} {size} {p} {first} {r} {u} {status} {log} (ends {r = a} z x e) q =
    let same : a ≡ u = cc in rw (e (λ n q. chunks k n q)) (rw same at x)

module _ {k : Task} {first : List ℕ} {t₀ t : Tally} {status₀ log₀ status log status' log' : List ℕ} {values : Values} {r : ControlFlow Report Tally}
    (limit : 1 ≤ k.limit) (g : Going k first t₀ status₀ log₀ t status log)
    (call : (w : At k t first status log) → Called k t.size w.progress first r status' log' values)
  where
    pub going_step : {u : Tally} → r ≡ Continue u → Going k first t₀ status₀ log₀ u status' log'
    going_step q v =
        let here = (g v).here in
        let f = further (call here).next q in
        record { here = f.there; same = (g v).same ∙ chunks-next limit here.reached ∙ f.goes (λ n q. chunks k n q) }

    pub going_less : {u : Tally} → r ≡ Continue u → At k t₀ first status₀ log₀ → u.candidates < t.candidates
    going_less q v =
        let here = (g v).here in
        let f = further (call here).next q in
        omega (arith, f.there.shows.candidates_are, here.shows.candidates_are, f.fewer)

    pub going_end : {u : Report} → r ≡ Break u → (v : At k t₀ first status₀ log₀)
        → EndsAt k.vars (chunks k t₀.size v.progress) u status' log'
    going_end q v =
        let here = (g v).here in
        rw ((g v).same ∙ chunks-next limit here.reached) (ended_there (call here).next q)

pub going_done : {k : Task} {first : List ℕ} {t₀ t : Tally} {status₀ log₀ status log : List ℕ} → 1 ≤ k.limit
    → Going k first t₀ status₀ log₀ t status log → t.candidates ≤ 0 → (v : At k t₀ first status₀ log₀)
    → EndsAt k.vars (chunks k t₀.size v.progress)
    (record { answer = RunAnswer.Settled; calls = t.calls; tries = t.tries; forced = t.forced; free = t.free }) status log
going_done {k} {first} {t₀} {t} limit g h v =
    let w = (g v).here in
    let z : opens w.progress.statuses ≡ 0 = omega (arith, w.shows.candidates_are) in
    let there = ended_by RunAnswer.Settled w.progress in
    rw ((g v).same ∙ chunks-next limit w.reached ∙ ap (λ (j : ℕ). on_open j k t.size w.progress (λ s q. chunks k s q)) z)
    (ends_shown there refl w.shows)

-- ---- the records

-- the invariant with the records: calls and ways keep their lengths, and show the records of where the run is
pub record Kept (es : List ℤ) (limits : Limits) (first : Values) (t₀ : Tally) (status₀ calls₀ ways₀ log₀ values₀ : List ℕ)
    (t : Tally) (status calls ways log values : List ℕ) : Type 0 where
  pub running : Running es limits first t₀ status₀ log₀ values₀ t status log values
  pub calls_len : length calls ≡ length calls₀
  pub ways_len : length ways ≡ length ways₀
  pub shown : (v : At (task es (length status₀) limits) t₀ first status₀ log₀) → ShowsRecords v.progress.records calls₀ ways₀
      → ShowsRecords (running.going v).here.progress.records calls ways

pub kept_start : (es : List ℤ) (limits : Limits) (first : Values) (t : Tally) (status calls ways log values : List ℕ)
    → Kept es limits first t status calls ways log values t status calls ways log values
unfolding going_start
kept_start es limits first t status calls ways log values =
    record {
      running = record { status_len = refl; log_len = refl; values_len = refl; going = going_start (task es (length status) limits) first t status log };
      calls_len = refl;
      ways_len = refl;
      shown = λ v x. x;
    }

-- the first model is of the run's variables
pub first_length : {k : Task} {t : Tally} {first status log : List ℕ} → At k t first status log → length first ≡ k.vars
first_length w = ap length w.shows.first_is ∙ (first_model_is (known w.reached)).len

put_same : {n n' : ℕ} {first first' values status status' calls ways calls' ways' : List ℕ} → n ≡ n' → first ≡ first' → status ≡ status'
    → RecordsPut n first values status calls ways calls' ways' → RecordsPut n' first' values status' calls ways calls' ways'
put_same a b c y = rw (a, b, c) at y

-- one call more, from where the run is
further_shown : {k : Task} {t u : Tally} {first status log status' log' : List ℕ} {values : Values} {r : ControlFlow Report Tally} (w : At k t first status log)
    (c : Called k t.size w.progress first r status' log' values) (q : r ≡ Continue u) → 1 ≤ t.candidates
    → {calls ways calls' ways' : List ℕ} → ShowsRecords w.progress.records calls ways
    → RecordsPut u.calls first values status' calls ways calls' ways'
    → ShowsRecords (further c.next q).there.progress.records calls' ways'
further_shown {k} {t} {u} {first} {status} {log} {status'} {log'} {values} w c q some {calls} {ways} {calls'} {ways'} x y =
    records_next k t.size w.progress u.size there (known_records w.reached) (omega (arith, w.shows.candidates_are)) f.goes
    c.values_are x (put_same f.there.shows.calls_is w.shows.first_is f.there.shows.status_is y)
  where
    f : Further k t.size w.progress first u status' log'
    f = further c.next q

    there : Progress
    there = f.there.progress

-- the call ends the run
ended_shown : {k : Task} {size : ℕ} {p : Progress} {first : List ℕ} {r : ControlFlow Report Tally} {u : Report} {status log : List ℕ}
    → NextTo k size p first r status log → r ≡ Break u → 1 ≤ opens p.statuses → (onward k size p).progress.records ≡ p.records
ended_shown (goes_on w o e) q some = apart cc
ended_shown {k} {size} {p} (ends z x e) q some =
    ap (λ (y : Ended). y.progress.records) (e (λ n q. chunks k n q)) ∙ records_end k size p z some e

module _ {k : Task} {first : List ℕ} {t₀ t : Tally} {status₀ log₀ status log status' log' : List ℕ} {values : Values} {r : ControlFlow Report Tally}
    (limit : 1 ≤ k.limit) (g : Going k first t₀ status₀ log₀ t status log)
    (call : (w : At k t first status log) → Called k t.size w.progress first r status' log' values) (some : 1 ≤ t.candidates)
    {calls₀ ways₀ calls ways : List ℕ}
    (shown : (v : At k t₀ first status₀ log₀) → ShowsRecords v.progress.records calls₀ ways₀
    → ShowsRecords (g v).here.progress.records calls ways)
  where
    pub kept_step : {u : Tally} (q : r ≡ Continue u) {calls' ways' : List ℕ} → RecordsPut u.calls first values status' calls ways calls' ways'
        → (v : At k t₀ first status₀ log₀) → ShowsRecords v.progress.records calls₀ ways₀
        → ShowsRecords (going_step limit g call q v).here.progress.records calls' ways'
    unfolding going_step
    kept_step q y v x = further_shown (g v).here (call (g v).here) q some (shown v x) y

    pub kept_end : {u : Report} → r ≡ Break u → (v : At k t₀ first status₀ log₀) → ShowsRecords v.progress.records calls₀ ways₀
        → ShowsRecords (chunks k t₀.size v.progress).progress.records calls ways
    kept_end q v x =
        let here = (g v).here in
        rw (ap (λ (e : Ended). e.progress.records) ((g v).same ∙ chunks-next limit here.reached) ∙
        ended_shown (call here).next q (omega (arith, here.shows.candidates_are)))
        (shown v x)

pub kept_done : {k : Task} {first : List ℕ} {t₀ t : Tally} {status₀ log₀ status log : List ℕ} → 1 ≤ k.limit
    → (g : Going k first t₀ status₀ log₀ t status log) → t.candidates ≤ 0 → (v : At k t₀ first status₀ log₀) → {calls ways : List ℕ}
    → ShowsRecords (g v).here.progress.records calls ways
    → ShowsRecords (chunks k t₀.size v.progress).progress.records calls ways
kept_done {k} {first} {t₀} {t} limit g h v x =
    let w = (g v).here in
    let z : opens w.progress.statuses ≡ 0 = omega (arith, w.shows.candidates_are) in
    rw ((g v).same ∙ chunks-next limit w.reached ∙ ap (λ (j : ℕ). on_open j k t.size w.progress (λ s q. chunks k s q)) z) x
