-- What a run says of the records of its variables: for every task with a chunk limit of 1 or more, however the run ends.
--
--   run_records           what is known of the records at the end
--   record_statuses, record_status     the statuses of the records are the statuses
--   run_recorded          call and way are 0 exactly while a variable is open, and the way says what it is; calls are those begun
--   run_counted           each row counts the records with its call, by their ways
--   run_records_in        all of it, of what the buffers show
--   no_model_records      after 20 every variable is open
--
-- Assumes nothing.
use mathlib.Core.Path.{◌≡◌, refl, sym}
use mathlib.Core.List.{[]}
use Prim.Native.Nat.{ℕ, ◌≤◌, ◌<◌}
use native.Mathlib.Omega.{arith}
use lib.ListN.{length, replicate}
use Rattle.rules.specs.declared.RunAnswer.{RunAnswer}
use Rattle.rules.specs.Lists.{In}
use Rattle.rules.specs.Records.{open_record, record_at, statuses_of, calls_of, ways_of}
use Rattle.rules.specs.Run.{Task, Row, status_at, begun, Ended, run}
use Rattle.rules.specs.Recorded.{Recorded, Counted, RecordsIn}
use Rattle.rules.specs.Answer.{log_of_rows}
use Rattle.rules.specs.Trace.{Ends, first_none, first_stopped, settled, next_stopped}
use Rattle.rules.proofs.ListLaws.{apart}
use Rattle.rules.proofs.RecordLaws.{KnownRecords, same_length, status_was, recorded, records_begun, first_none_records}
use Rattle.rules.proofs.RecordLaws.{records_first_none, records_stop, known_records}
use Rattle.rules.proofs.RunTrace.{run_ends}
use Rattle.rules.proofs.RunTheorems.{run_statuses}

module _ (k : Task) (limit : 1 ≤ k.limit) where
  pub run_records : KnownRecords (run k).progress
  run_records = go (run_ends k limit)
    where
      go : {e : Ended} → Ends k e → KnownRecords e.progress
      go (first_none t e) = records_first_none k t
      go (first_stopped t e) = records_stop (begun k []) 0 t (records_begun k.vars)
      go (settled r o) = known_records r
      go (next_stopped {chunk = chunk} {p = p} t r o e) = records_stop p chunk t (known_records r)

  pub record_statuses : statuses_of (run k).progress.records ≡ (run k).progress.statuses
  record_statuses = run_records.same

  pub record_status : (i : ℕ) → i < k.vars → (record_at (run k).progress.records i).status ≡ status_at (run k).progress.statuses i
  record_status i h = status_was run_records i (omega (arith, same_length run_records, (run_statuses k limit).0))

  pub run_recorded : (i : ℕ) → Recorded (length (run k).progress.rows) (record_at (run k).progress.records i)
  run_recorded i = recorded (run_records.shape i)

  pub run_counted : (r : Row) → In r (run k).progress.rows → Counted (run k).progress.records r
  run_counted = run_records.counts

  -- all of it, of what the buffers show
  pub run_records_in :
      RecordsIn k.vars (length (run k).progress.rows) (run k).progress.statuses (calls_of (run k).progress.records)
      (ways_of (run k).progress.records) (log_of_rows k.vars (run k).progress.rows)
  run_records_in =
      record {
        records = (run k).progress.records;
        rows = (run k).progress.rows;
        status_is = sym record_statuses;
        calls_are = refl;
        ways_are = refl;
        log_is = refl;
        rows_many = refl;
        each = run_recorded;
        counts = run_counted;
      }

  pub no_model_records : (run k).answer ≡ RunAnswer.NoModel → (run k).progress.records ≡ replicate k.vars open_record
  no_model_records = go (run_ends k limit)
    where
      go : {e : Ended} → Ends k e → e.answer ≡ RunAnswer.NoModel → e.progress.records ≡ replicate k.vars open_record
      go (first_none t e) z = first_none_records k t
      go (first_stopped t e) z = refl
      go (settled r o) z = apart cc
      go (next_stopped t r o e) z = apart cc
