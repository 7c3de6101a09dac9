-- What a run says of its calls, its tries and its log: for every task with a chunk limit of 1 or more, however the run ends.
--
--   run_calls         calls begun are at most V + 1
--   run_tries         tries never exceed the budget
--   run_log           rows are numbered; each call after the first drops or forces a candidate; the columns add up
--   no_model_table    after 20 all variables are open, and the log has one row
--   stopped_spent     a run is stopped only if the budget is spent
--
-- Assumes nothing.
use mathlib.Core.Path.{◌≡◌, refl, sym}
use mathlib.Core.List.{[], ◌∷◌}
use Prim.Native.Nat.{ℕ, ◌+◌, ◌≤◌}
use native.Mathlib.Omega.{arith}
use lib.ListN.{length, replicate, length-append}
use Rattle.rules.specs.declared.Outcome.{Outcome}
use Rattle.rules.specs.declared.RunAnswer.{RunAnswer}
use Rattle.rules.specs.Lists.{count}
use Rattle.rules.specs.Run.{Task, row_after, Ended, begun, run}
use Rattle.rules.specs.Answer.{is_free, is_forced}
use Rattle.rules.specs.Log.{LogOf}
use Rattle.rules.specs.Trace.{Ends, first_none, first_stopped, settled, next_stopped}
use Rattle.rules.proofs.ListLaws.{apart}
use Rattle.rules.proofs.RunTrace.{run_ends}
use Rattle.rules.proofs.LogLaws.{LogAt, blank_counts, first_metered, chunk_metered, log_begun, log_counts, stop_log, logged, calls_opens_le, tries_le}

-- the one row of a first call that finds no model
first_log : (k : Task) (o : Outcome) (t : ℕ)
    → LogOf (row_after (begun k []) o 0 0 0 t ∷ []) (count is_free (replicate k.vars 0)) (count is_forced (replicate k.vars 0)) t
first_log k o t =
    let (a, b, z) = blank_counts k.vars in
    log_counts (sym a) (sym b) (omega arith) (log_begun (row_after (begun k []) o 0 0 0 t) refl)

module _ (k : Task) (limit : 1 ≤ k.limit) where
  pub run_calls : length (run k).progress.rows ≤ k.vars + 1
  run_calls = go (run_ends k limit)
    where
      go : {e : Ended} → Ends k e → length e.progress.rows ≤ k.vars + 1
      go (first_none t e) = omega arith
      go (first_stopped t e) = omega arith
      go (settled r o) = omega (arith, calls_opens_le limit r)
      go (next_stopped {chunk = chunk} {p = p} t r o e) =
          omega (arith, calls_opens_le limit r, length-append p.rows (row_after p Outcome.Stopped chunk 0 0 t ∷ []))

  pub run_tries : (run k).progress.tries ≤ k.budget
  run_tries = go (run_ends k limit)
    where
      go : {e : Ended} → Ends k e → e.progress.tries ≤ k.budget
      go (first_none t e) = rw e at ((first_metered k).within (omega arith))
      go (first_stopped t e) = rw e at ((first_metered k).within (omega arith))
      go (settled r o) = tries_le r
      go (next_stopped {chunk = chunk} {p = p} t r o e) = rw e at ((chunk_metered k p chunk).within (tries_le r))

  pub run_log : LogAt (run k).progress
  run_log = go (run_ends k limit)
    where
      go : {e : Ended} → Ends k e → LogAt e.progress
      go (first_none t e) = first_log k Outcome.NoModel t
      go (first_stopped t e) = first_log k Outcome.Stopped t
      go (settled r o) = logged limit r
      go (next_stopped {chunk = chunk} {p = p} t r o e) =
          stop_log p chunk t (rw e at (chunk_metered k p chunk).up) (logged limit r)

  pub no_model_table : (run k).answer ≡ RunAnswer.NoModel → ((run k).progress.statuses ≡ replicate k.vars 0) × (length (run k).progress.rows ≡ 1)
  no_model_table = go (run_ends k limit)
    where
      go : {e : Ended} → Ends k e → e.answer ≡ RunAnswer.NoModel → (e.progress.statuses ≡ replicate k.vars 0) × (length e.progress.rows ≡ 1)
      go (first_none t e) z = (refl, refl)
      go (first_stopped t e) z = (refl, refl)
      go (settled r o) z = apart cc
      go (next_stopped t r o e) z = apart cc

  pub stopped_spent : (run k).answer ≡ RunAnswer.Stopped → (run k).progress.tries ≡ k.budget
  stopped_spent = go (run_ends k limit)
    where
      go : {e : Ended} → Ends k e → e.answer ≡ RunAnswer.Stopped → e.progress.tries ≡ k.budget
      go (first_none t e) z = apart cc
      go (first_stopped t e) z = omega (arith, (first_metered k).spent t e, rw e at ((first_metered k).within (omega arith)))
      go (settled r o) z = apart cc
      go (next_stopped {chunk = chunk} {p = p} t r o e) z =
          omega (arith, (chunk_metered k p chunk).spent t e, rw e at ((chunk_metered k p chunk).within (tries_le r)))
