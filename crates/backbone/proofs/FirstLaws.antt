-- The laws of specs/First: the run by its first call.
--
--   copied_whole, kept_len     all of one list put over another of its length; a board of as many variables
--   shows_begun, room_begun, row_begun, ready_begun     cleared buffers show a run that has begun, and there is room for its first row
--   first_over, first_called     what the first call needs, and what its end says
--   shows_none, cleared_lent     and that every record is open
--   records_first     the records behind the first model
--   done_by_row       the first call found no model, or was stopped
--   first_at_lem, done_from_model, records_from_model     the first call found a model
--   model_kept, settled, settled_at     where the first call has brought the run
--   hints_done        the hints of the first model, or of none, are those of the rules
--
-- Assumes nothing.
use mathlib.Core.Path.{◌≡◌, refl, sym, ◌∙◌, ap}
use mathlib.Core.Logic.{◌≢◌, ◌⊎◌, inl, inr}
use mathlib.Core.List.{List, [], ◌∷◌, ◌++◌, append-nil}
use Prim.Native.Nat.{ℕ, zero, suc, ◌+◌, ◌-◌, ◌*◌, ◌≤◌}
use native.Mathlib.Omega.{arith}
use lib.IntN.{ℤ}
use lib.ListN.{length, replicate, length-replicate, take, drop, drop_of_length-le}
use lib.Seq.{take_all}
use Rattle.rules.specs.declared.Outcome.{Outcome}
use Rattle.rules.specs.declared.Report.{Report}
use Rattle.rules.specs.Numbers.{max_vars}
use Rattle.rules.specs.Meaning.{Values, clauses}
use Rattle.rules.specs.Search.{Call, model, no_model, stopped}
use Rattle.rules.specs.Records.{open_record, calls_of, ways_of}
use Rattle.rules.specs.Run.{Task, opens, blank, begun, after_model, first_call, on_first, chunks, run}
use Rattle.rules.specs.Hints.{hint_at, hints_in, hints_of}
use Rattle.rules.specs.Trace.{Reached, first_model}
use Rattle.rules.specs.Answer.{log_length}
use Rattle.rules.specs.Lists.{tabled}
use Rattle.rules.proofs.LogLaws.{blank_counts}
use Rattle.rules.proofs.RecordLaws.{records_begun, first_none_records}
use Rattle.rules.proofs.HintTheorems.{first_model as model-found}
use Rattle.formula.specs.Formula.{Formula}
use Rattle.formula.proofs.ClauseLaws.{length_starts, nil_up_to}
use Rattle.search.specs.declared.call.CallEnd.{CallEnd}
use Rattle.search.specs.Calls.{CallOver, values_after, CallEnds}
use Rattle.search.specs.Rooms.{BoardKept}
use Rattle.calls.specs.declared.after.Tally.{Tally}
use Rattle.calls.specs.declared.after.Made.{Made}
use Rattle.calls.specs.declared.next.Limits.{Limits}
use Rattle.calls.specs.After.{Shows, EndsAt, RowRoom, RowLeft, TallyReady, ModelLeft}
use Rattle.calls.specs.Next.{At, task}
use Rattle.calls.specs.Records.{ShowsRecords, RecordsLent}
use Rattle.calls.proofs.RecordLaws.{records_model}
use Rattle.steps.specs.Records.{RecordsPut}
use Rattle.steps.specs.Hint.{hint_in, HintsPut}
use Rattle.steps.proofs.HintLaws.{hints_of_total, hints_of_blank}
use Rattle.calls.proofs.AfterLaws.{ends_row, shows_model}
use Rattle.search.proofs.EndLaws.{was_otherwise}
use Rattle.backbone.specs.First.{first_on, Cleared, started, RunDone, ListDone, HintsDone, FirstFound}

-- ---- the first model is kept

pub copied_whole : (xs ys : List ℕ) {zs : List ℕ} → length ys ≡ length xs → zs ≡ take (length xs) xs ++ drop (length xs) ys → zs ≡ xs
copied_whole xs ys e f =
    f ∙ ap (λ (ts : List ℕ). ts ++ drop (length xs) ys) (take_all (length xs) xs (omega arith)) ∙
    ap (λ (ts : List ℕ). xs ++ ts) (drop_of_length-le ys {i = length xs} (omega (arith, e))) ∙ append-nil xs

-- the board of as many variables
pub kept_len : {n m : ℕ} {es : List ℤ} {lists holders marks : List ℕ} {values : Values} {keys hot trail : List ℕ} → n ≡ m
    → BoardKept n es lists holders marks values keys hot trail → BoardKept m es lists holders marks values keys hot trail
kept_len e k = rw (← e) k

-- ---- before the first call

module _ {status calls ways log : List ℕ} (w : Cleared status calls ways log) where
  pub log_len : length log ≡ log_length (length status)
  log_len = ap length w.log_is ∙ length-replicate (log_length (length status)) 0

  pub room_begun : (vars : ℕ) {t : Tally} → t ≡ started vars → 6 * (t.calls + 1) ≤ length log
  room_begun vars q = rw q (omega (arith, log_len))

  pub shows_begun : (k : Task) (m : Values) {first : List ℕ} (vars : ℕ) {t : Tally} → t ≡ started vars → k.vars ≡ length status → first ≡ m
      → vars ≡ k.vars → Shows k.vars (begun k m) t first status log
  shows_begun k m vars q e f n =
      let (a, d, o) = blank_counts k.vars in
      rw q
      (record {
        first_is = f;
        status_is = w.status_is ∙ ap (λ (n : ℕ). replicate n 0) (sym e);
        log_is = w.log_is ∙ ap (λ (n : ℕ). replicate n 0) all;
        candidates_are = n ∙ sym o;
        calls_is = refl;
        tries_is = refl;
        free_is = sym a;
        forced_is = sym d;
      })
    where
      all : log_length (length status) ≡ log_length k.vars - 6 * 0
      all = omega (arith, e)

  pub row_begun : (vars : ℕ) {t : Tally} → t ≡ started vars → (made : Made) → RowRoom log t made
  row_begun vars q made = rw q (record { log_room_lem = omega (arith, log_len); calls_fit = omega arith; tries_up = omega arith })

  pub ready_begun : {first : List ℕ} (vars : ℕ) {t : Tally} → t ≡ started vars → length first ≡ length status → vars ≡ length status
      → length status ≤ max_vars → (made : Made) → TallyReady first status log t made
  ready_begun vars q e n h made =
      record {
        row = row_begun vars q made;
        len = e;
        vars_fit = h;
        candidates_are = ap (λ (t : Tally). t.candidates) q ∙ n ∙ sym (ap opens w.status_is ∙ (blank_counts (length status)).2);
        free_fit = rw q (omega arith);
        forced_fit = rw q (omega arith);
      }

-- cleared buffers show that every record is open
open_calls : (n : ℕ) → replicate n 0 ≡ calls_of (replicate n open_record)
open_calls zero = refl
open_calls (suc n) = ap (λ (cs : List ℕ). 0 ∷ cs) (open_calls n)

open_ways : (n : ℕ) → replicate n 0 ≡ ways_of (replicate n open_record)
open_ways zero = refl
open_ways (suc n) = ap (λ (ws : List ℕ). 0 ∷ ws) (open_ways n)

pub shows_none : {status calls ways log : List ℕ} → Cleared status calls ways log → ShowsRecords (replicate (length status) open_record) calls ways
shows_none {status} w = record { calls_are = w.calls_are ∙ open_calls (length status); ways_are = w.ways_are ∙ open_ways (length status) }

pub cleared_lent : {status calls ways log : List ℕ} → Cleared status calls ways log → RecordsLent status calls ways
cleared_lent {status} w =
    record {
      calls_len = ap length w.calls_are ∙ length-replicate {A = ℕ} (length status) 0;
      ways_len = ap length w.ways_are ∙ length-replicate {A = ℕ} (length status) 0;
    }

-- what the first model settles
pub records_first : (k : Task) (m : Values) (t : ℕ) {n : ℕ} {first values status calls ways calls' ways' : List ℕ}
    → ShowsRecords (replicate k.vars open_record) calls ways → n ≡ 1 → first ≡ m → values ≡ m → status ≡ (after_model k (begun k m) 0 m t).statuses
    → RecordsPut n first values status calls ways calls' ways' → ShowsRecords (after_model k (begun k m) 0 m t).records calls' ways'
records_first k m t x a b c d y = records_model k (begun k m) 0 m t (records_begun k.vars) x (rw (a, b, c, d) at y)

-- ---- the first call

module _ {es : List ℤ} {starts : List ℕ} {n : ℕ} (f : Formula n es starts) where
  pub first_over : {vars : ℕ} → vars ≡ n → CallOver vars es starts [] (length starts - 1)
  first_over e =
      rw e (record { formula = f; constraint_up_to = nil_up_to n; total_most = omega (arith, length_starts f) })

pub first_called : (es : List ℤ) (limits : Limits) {n vars : ℕ} {vs after : Values} {r : CallEnd} → n ≡ vars
    → CallEnds (first_on es n limits.budget) vs limits.budget r after
    → CallEnds (first_call (task es vars limits)) vs limits.budget r after
unfolding first_call
first_called es limits e w = rw e at w

-- ---- the run by its end

run_first : (k : Task) (c : Call) → first_call k ≡ c → run k ≡ on_first c k
unfolding run
run_first k c e = ap (λ (d : Call). on_first d k) e

-- where the first call found none, or was stopped: the row, and the values for a first model as they were
pub done_by_row : (es : List ℤ) (limits : Limits) {vs after first : Values} {e : CallEnd} {status calls ways log log' : List ℕ} {r : Report} (vars : ℕ)
    {budget : ℕ} {t : Tally} → Cleared status calls ways log → t ≡ started vars → vars ≡ length status
    → CallEnds (first_call (task es (length status) limits)) vs budget e after → e.outcome ≢ Outcome.Model
    → RowLeft log t e.outcome (record { chunk = 0; spent = e.meter.spent }) r log'
    → ListDone es (length status) limits first r first status calls ways log'
done_by_row es limits {first = first} {e} {status} {calls} {ways} {log} {log'} {r} vars {t = t} w z n c ne x = go (was_otherwise c ne)
  where
    k : Task
    k = task es (length status) limits

    room : 6 * (t.calls + 1) ≤ length log
    room = room_begun w vars z

    shows : Shows k.vars (begun k []) t [] status log
    shows = shows_begun w k [] vars z refl refl n

    go : ((first_call k ≡ no_model e.meter.spent) × (e.outcome ≡ Outcome.NoModel))
        ⊎ ((first_call k ≡ stopped e.meter.spent) × (e.outcome ≡ Outcome.Stopped))
        → ListDone es (length status) limits first r first status calls ways log'
    go (inl (q, o)) =
        let x = ends_row k (begun k []) t shows room Outcome.NoModel (rw o at x) in
        record {
          done = rw (run_first k _ q) (record { result_is = x.result_is; status_is = x.status_is; log_is = x.log_is });
          records = rw (run_first k _ q, first_none_records k e.meter.spent) (shows_none w);
          first_is = rw q;
        }
    go (inr (q, o)) =
        record {
          done = rw (run_first k _ q) (ends_row k (begun k []) t shows room Outcome.Stopped (rw o at x));
          records = rw (run_first k _ q) (shows_none w);
          first_is = rw q;
        }

pub reached_first : (k : Task) (m : Values) (t : ℕ) → first_call k ≡ model m t → {size : ℕ} → size ≡ 1 → Reached k size (after_model k (begun k m) 0 m t)
reached_first k m t e z = rw z (first_model m t e)

abbrev pub first_at_lem : (k : Task) (m : Values) (t : ℕ) → first_call k ≡ model m t → {u : Tally} {first status log : List ℕ}
    → (u.size ≡ 1) × Shows k.vars (after_model k (begun k m) 0 m t) u first status log → At k u first status log
first_at_lem k m t e w =
    record { progress = after_model k (begun k m) 0 m t; reached = reached_first k m t e w.0; shows = w.1 }

-- and of the records
pub records_from_model : (k : Task) (m : Values) (t : ℕ) → first_call k ≡ model m t → {size : ℕ} → size ≡ 1 → {calls ways : List ℕ}
    → ShowsRecords (chunks k size (after_model k (begun k m) 0 m t)).progress.records calls ways → ShowsRecords (run k).progress.records calls ways
records_from_model k m t e z w =
    rw (run_first k (model m t) e ∙ ap (λ (n : ℕ). chunks k n (after_model k (begun k m) 0 m t)) (sym z)) w

pub done_from_model : (k : Task) (m : Values) (t : ℕ) → first_call k ≡ model m t → {size : ℕ} → size ≡ 1 → {r : Report} {status log : List ℕ}
    → EndsAt k.vars (chunks k size (after_model k (begun k m) 0 m t)) r status log → RunDone k r status log
done_from_model k m t e z w =
    rw (run_first k (model m t) e ∙ ap (λ (n : ℕ). chunks k n (after_model k (begun k m) 0 m t)) (sym z)) w

-- the run where its first call has brought it: the model is kept, compared and flipped
module _ {es : List ℤ} {starts : List ℕ} {values first : Values} {status calls ways log : List ℕ} {spent : ℕ} {limits : Limits}
    (d : FirstFound es starts values first status calls ways log spent limits) where
  abbrev found_task : Task
  found_task = task es (length status) limits

  module _ {kept : Values} (copied : kept ≡ take (length values) values ++ drop (length values) first) where
    pub model_kept : kept ≡ values
    model_kept = copied_whole values first (d.begins.first_len ∙ sym d.values_len) copied

    module _ {t r : Tally} {values1 : Values} {status1 log1 : List ℕ} (q : t ≡ started (length values))
        (x : ModelLeft (clauses es) kept values status log t (record { chunk = 0; spent = spent }) r values1 status1 log1) where
      pub settled : (r.size ≡ 1) × Shows (length status) (after_model found_task (begun found_task values) 0 values spent) r kept status1 log1
      settled =
          shows_model found_task (begun found_task values) _
          (shows_begun d.begins.cleared found_task values _ q refl model_kept d.values_len) (room_begun d.begins.cleared _ q) refl x

      abbrev pub settled_at : At found_task r kept status1 log1
      settled_at = first_at_lem found_task values spent d.found settled

-- ---- the hints: of what the first call left where no value stood before

hints_judged : (k : Task) {vs : Values} → vs ≡ values_after (first_call k) (blank k.vars) → tabled (hint_in k.formula vs) 0 (length vs) ≡ hints_of k
unfolding hints_of
hints_judged k {vs} e = ap (λ (ws : Values). tabled (hint_in k.formula ws) 0 (length ws)) e ∙ go (first_call k) refl
  where
    -- no model was found
    none_found : tabled (hint_in k.formula (blank k.vars)) 0 (length (blank k.vars)) ≡ replicate k.vars 0
    none_found =
        ap (tabled (hint_in k.formula (blank k.vars)) 0) (length-replicate {A = ℕ} k.vars 0) ∙ hints_of_blank k.formula k.vars

    go : (c : Call) → first_call k ≡ c
        → tabled (hint_in k.formula (values_after c (blank k.vars))) 0 (length (values_after c (blank k.vars))) ≡ hints_in c k
    go (model m t) q =
        let x = model-found k m t q in
        hints_of_total k.formula m x.total ∙ ap (tabled (hint_at k.formula m) 0) x.len
    go (no_model t) q = none_found
    go (stopped t) q = none_found

-- and so the run is done with them
pub hints_done : (es : List ℤ) (vars : ℕ) (limits : Limits) {first between after : Values} {r : Report} {status calls ways hints log : List ℕ}
    → first ≡ blank vars → ListDone es vars limits first r between status calls ways log → HintsPut (clauses es) between after hints
    → HintsDone es vars limits r after status calls ways hints log
hints_done es vars limits e w p =
    let done = rw e at w in
    record { run_done = rw p.values_same done; hints_are = p.hints_are ∙ hints_judged (task es vars limits) done.first_is }
