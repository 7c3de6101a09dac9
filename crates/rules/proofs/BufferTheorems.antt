-- What the buffers lent to a run hold afterwards, and that its contract has exactly one solution.
--
--   runs_exists, runs_unique     one result and one content of each buffer satisfy the contract, and no others
--   refused_writes_nothing       a refused run returns zero counts and leaves the buffers
--   length_rows                  six numbers a row
--   status_written               the first V bytes are the statuses, and the rest stays
--   calls_written, ways_written     the first V calls and ways are those of the records, and the rest stays
--   hints_written                the first V numbers are the hints, and the rest stays
--   log_written                  rows for the calls begun, zeros for rows not used, and the rest stays
--   length_status_after, length_calls_after, length_ways_after, length_hints_after, length_log_after     the buffers keep their lengths
--   hints_after_le                no hint is above the number of clauses
--
-- Assumes nothing.
use mathlib.Core.Path.{◌≡◌, refl, sym, ◌∙◌}
use mathlib.Core.List.{List, [], ◌∷◌, ◌++◌, map, append-nil}
use mathlib.Core.Option.{none}
use Prim.Native.Nat.{ℕ, ◌+◌, ◌-◌, ◌*◌, ◌≤◌}
use native.Mathlib.Omega.{arith}
use lib.ListN.{length, get_or, take, drop, replicate, length-append, length-drop, length-map, length-replicate, drop_of_length-le}
use lib.Seq.{take_at, drop_at}
use Rattle.rules.specs.declared.Refusal.{Refusal}
use Rattle.rules.specs.declared.RunAnswer.{RunAnswer}
use Rattle.rules.specs.declared.Report.{Report}
use Rattle.rules.specs.declared.Record.{Record}
use Rattle.rules.specs.Lists.{joined}
use Rattle.rules.specs.Run.{Row, run}
use Rattle.rules.specs.Numbers.{way_number}
use Rattle.rules.specs.Records.{calls_of, ways_of}
use Rattle.rules.specs.Hints.{hints_of}
use Rattle.rules.specs.Answer.{Given, Buffers, buffers, log_length, refusal_of, task_of, report_of, status_after, calls_after, ways_after, hints_after}
use Rattle.rules.specs.Answer.{row_numbers, log_of_rows}
use Rattle.rules.specs.Answer.{log_after, Runs}
use Rattle.rules.specs.RunRefusals.{Accepted, RunRefuses}
use Rattle.rules.proofs.RunTheorems.{run_statuses}
use Rattle.rules.proofs.RecordLaws.{same_length}
use Rattle.rules.proofs.RecordTheorems.{run_records}
use Rattle.rules.proofs.CallTheorems.{run_calls}
use Rattle.rules.proofs.HintLaws.{length-hints_of, hints_of_le}
use Rattle.rules.proofs.RefusedRuns.{run_refused, run_accepted}

-- ---- the contract

pub runs_exists : (g : Given) → Runs g (report_of g) (buffers (status_after g) (calls_after g) (ways_after g) (hints_after g) (log_after g))
runs_exists g = record { result_is = refl; status_is = refl; calls_are = refl; ways_are = refl; hints_are = refl; log_is = refl }

pub runs_unique : {g : Given} {r r' : Report} {b b' : Buffers} → Runs g r b → Runs g r' b' → (r ≡ r') × (b ≡ b')
runs_unique p q = (
  p.result_is ∙ sym q.result_is,
  same (p.status_is ∙ sym q.status_is) (p.calls_are ∙ sym q.calls_are) (p.ways_are ∙ sym q.ways_are)
      (p.hints_are ∙ sym q.hints_are) (p.log_is ∙ sym q.log_is),
)
  where
    same : {s s' c c' w w' h h' l l' : List ℕ} → s ≡ s' → c ≡ c' → w ≡ w' → h ≡ h' → l ≡ l' → buffers s c w h l ≡ buffers s' c' w' h' l'
    same a b d e f = cc

-- ---- refused

pub refused_writes_nothing : (g : Given) (a : Refusal) → RunRefuses g a
    → (report_of g ≡ record { answer = RunAnswer.Refused a; calls = 0; tries = 0; forced = 0; free = 0 })
    × (status_after g ≡ g.status) × (calls_after g ≡ g.calls) × (ways_after g ≡ g.ways) × (hints_after g ≡ g.hints) × (log_after g ≡ g.log)
unfolding report_of status_after calls_after ways_after hints_after log_after
refused_writes_nothing g a h = let e = (run_refused g a).1 h in (rw e, rw e, rw e, rw e, rw e, rw e)

-- ---- accepted

pub length_rows : (rows : List Row) → length (joined (map row_numbers rows)) ≡ 6 * length rows
length_rows [] = refl
length_rows (r ∷ rows) =
    length-append (row_numbers r) (joined (map row_numbers rows)) ∙ omega (arith, length_rows rows)

module _ (g : Given) (w : Accepted g) where
  accepted : refusal_of g ≡ none
  accepted = (run_accepted g).1 w

  limit : 1 ≤ g.limit
  limit = w.listed.lent.in_limits.limit_some

  statuses : List ℕ
  statuses = (run (task_of g)).progress.statuses

  rows : List Row
  rows = (run (task_of g)).progress.rows

  length_statuses : length statuses ≡ g.vars
  unfolding statuses
  length_statuses = (run_statuses (task_of g) limit).0

  rows_le : length rows ≤ g.vars + 1
  unfolding rows
  rows_le = run_calls (task_of g) limit

  status_after_is : status_after g ≡ statuses ++ drop g.vars g.status
  unfolding status_after statuses
  status_after_is = rw accepted

  log_after_is : log_after g ≡ log_of_rows g.vars rows ++ drop (log_length g.vars) g.log
  unfolding log_after rows
  log_after_is = rw accepted

  pub status_written : (take g.vars (status_after g) ≡ (run (task_of g)).progress.statuses) × (drop g.vars (status_after g) ≡ drop g.vars g.status)
  unfolding statuses
  status_written =
      rw status_after_is (
        take_at statuses (drop g.vars g.status) g.vars length_statuses,
        drop_at statuses (drop g.vars g.status) g.vars length_statuses,
      )

  -- calls and ways
  records : List Record
  records = (run (task_of g)).progress.records

  length_records : length records ≡ g.vars
  unfolding records statuses
  length_records = same_length (run_records (task_of g) limit) ∙ length_statuses

  length_calls : length (calls_of records) ≡ g.vars
  length_calls = length-map records (λ (r : Record). r.call) ∙ length_records

  length_ways : length (ways_of records) ≡ g.vars
  length_ways = length-map records (λ (r : Record). way_number r.way) ∙ length_records

  calls_after_is : calls_after g ≡ calls_of records ++ drop g.vars g.calls
  unfolding calls_after records
  calls_after_is = rw accepted

  ways_after_is : ways_after g ≡ ways_of records ++ drop g.vars g.ways
  unfolding ways_after records
  ways_after_is = rw accepted

  pub calls_written : (take g.vars (calls_after g) ≡ calls_of (run (task_of g)).progress.records)
      × (drop g.vars (calls_after g) ≡ drop g.vars g.calls)
  unfolding records
  calls_written =
      rw calls_after_is (
        take_at (calls_of records) (drop g.vars g.calls) g.vars length_calls,
        drop_at (calls_of records) (drop g.vars g.calls) g.vars length_calls,
      )

  pub ways_written : (take g.vars (ways_after g) ≡ ways_of (run (task_of g)).progress.records)
      × (drop g.vars (ways_after g) ≡ drop g.vars g.ways)
  unfolding records
  ways_written =
      rw ways_after_is (
        take_at (ways_of records) (drop g.vars g.ways) g.vars length_ways,
        drop_at (ways_of records) (drop g.vars g.ways) g.vars length_ways,
      )

  pub length_calls_after : length (calls_after g) ≡ length g.calls
  length_calls_after =
      rw calls_after_is
      (length-append (calls_of records) (drop g.vars g.calls) ∙
      omega (arith, length_calls, length-drop g.vars g.calls, w.listed.lent.calls_fit))

  pub length_ways_after : length (ways_after g) ≡ length g.ways
  length_ways_after =
      rw ways_after_is
      (length-append (ways_of records) (drop g.vars g.ways) ∙
      omega (arith, length_ways, length-drop g.vars g.ways, w.listed.lent.ways_fit))

  hints_after_is : hints_after g ≡ hints_of (task_of g) ++ drop g.vars g.hints
  unfolding hints_after
  hints_after_is = rw accepted

  pub hints_written : (take g.vars (hints_after g) ≡ hints_of (task_of g)) × (drop g.vars (hints_after g) ≡ drop g.vars g.hints)
  hints_written =
      rw hints_after_is (
        take_at (hints_of (task_of g)) (drop g.vars g.hints) g.vars (length-hints_of (task_of g)),
        drop_at (hints_of (task_of g)) (drop g.vars g.hints) g.vars (length-hints_of (task_of g)),
      )

  length_log : length (log_of_rows g.vars rows) ≡ log_length g.vars
  length_log =
      length-append (joined (map row_numbers rows)) (replicate (log_length g.vars - 6 * length rows) 0) ∙
      omega (arith, length_rows rows, length-replicate {A = ℕ} (log_length g.vars - 6 * length rows) 0, rows_le)

  pub log_written : (take (log_length g.vars) (log_after g) ≡ log_of_rows g.vars (run (task_of g)).progress.rows)
      × (drop (log_length g.vars) (log_after g) ≡ drop (log_length g.vars) g.log)
  unfolding rows
  log_written =
      rw log_after_is (
        take_at (log_of_rows g.vars rows) (drop (log_length g.vars) g.log) (log_length g.vars) length_log,
        drop_at (log_of_rows g.vars rows) (drop (log_length g.vars) g.log) (log_length g.vars) length_log,
      )

  pub length_status_after : length (status_after g) ≡ length g.status
  length_status_after =
      rw status_after_is
      (length-append statuses (drop g.vars g.status) ∙
      omega (arith, length_statuses, length-drop g.vars g.status, w.listed.lent.status_fits))

  pub length_hints_after : length (hints_after g) ≡ length g.hints
  length_hints_after =
      rw hints_after_is
      (length-append (hints_of (task_of g)) (drop g.vars g.hints) ∙
      omega (arith, length-hints_of (task_of g), length-drop g.vars g.hints, w.listed.lent.hints_fit))

  -- where the buffer is of just the size
  pub hints_after_le : length g.hints ≡ g.vars → (i : ℕ) → get_or (hints_after g) i 0 ≤ length (task_of g).formula
  hints_after_le n i = rw (hints_after_is, drop_of_length-le g.hints {i = g.vars} (omega arith), append-nil) (hints_of_le (task_of g) i)

  pub length_log_after : length (log_after g) ≡ length g.log
  length_log_after =
      rw log_after_is
      (length-append (log_of_rows g.vars rows) (drop (log_length g.vars) g.log) ∙
      omega (arith, length_log, length-drop (log_length g.vars) g.log, w.listed.lent.log_fits))
