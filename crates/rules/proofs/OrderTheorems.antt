-- The order of the rules does not matter: two runs with the same V, budget and chunk limit on the same rules, with the same literals held, are
-- one run, and what they return and show is the same but for the hints.
--
--   run_any_order     of tasks: the whole run, with its models, records and rows
--   runs_any_order    of what the contract of `run` promises: all numbers returned, statuses, calls, ways and log
--
-- Assumes nothing.
use mathlib.Core.Path.{◌≡◌, sym, ◌∙◌, ap}
use mathlib.Core.List.{List}
use mathlib.Core.Option.{Option}
use Prim.Native.Nat.{ℕ}
use lib.IntN.{ℤ}
use lib.ListN.{take}
use Rattle.rules.specs.declared.Refusal.{Refusal}
use Rattle.rules.specs.declared.Report.{Report}
use Rattle.rules.specs.Meaning.{Clause, clauses}
use Rattle.rules.specs.Records.{calls_of, ways_of}
use Rattle.rules.specs.Run.{Task, Ended, run}
use Rattle.rules.specs.Held.{with_held, holding}
use Rattle.rules.specs.Answer.{Given, Buffers, given, log_length, task_of, report_of, report_of_run, report_if, log_of_rows, Runs}
use Rattle.rules.specs.RunRefusals.{Accepted}
use Rattle.rules.specs.Order.{SameRules, SameHeld, with_rules, SameTable}
use Rattle.rules.proofs.OrderLaws.{same_rules_held, run_order}
use Rattle.rules.proofs.RefusedRuns.{run_accepted}
use Rattle.rules.proofs.BufferTheorems.{status_written, calls_written, ways_written, log_written}

-- ---- tasks

pub run_any_order : (k : Task) (F : List Clause) (held other : List ℤ) → SameRules k.formula F → SameHeld held other
    → run (holding k held) ≡ run (holding (with_rules k F) other)
run_any_order k F held other s h = run_order (holding k held) (with_held F other) (same_rules_held s h)

-- ---- the contract

-- what an accepted run returns
returned : {g : Given} {r : Report} {after : Buffers} → Runs g r after → Accepted g → r ≡ report_of_run (run (task_of g))
unfolding report_of
returned {g} w h = w.result_is ∙ ap (λ (o : Option Refusal). report_if o (task_of g)) ((run_accepted g).1 h)

module _ {es ds : List ℤ} {vars : ℕ} {held other : List ℤ} {budget limit : ℕ} {lent lent' after after' : Buffers} {r r' : Report}
    (w : Runs (given es vars held budget limit lent) r after) (v : Runs (given ds vars other budget limit lent') r' after')
    (a : Accepted (given es vars held budget limit lent)) (b : Accepted (given ds vars other budget limit lent')) where
  abbrev one : Given
  one = given es vars held budget limit lent

  abbrev two : Given
  two = given ds vars other budget limit lent'

  pub runs_any_order : SameRules (clauses es) (clauses ds) → SameHeld held other → (r ≡ r') × SameTable vars after after'
  runs_any_order s h = (
    returned w a ∙ ap report_of_run same ∙ sym (returned v b),
    record {
      status_same =
          ap (take vars) w.status_is ∙ (status_written one a).0 ∙ ap (λ (e : Ended). e.progress.statuses) same
          ∙ sym (ap (take vars) v.status_is ∙ (status_written two b).0);
      calls_same =
          ap (take vars) w.calls_are ∙ (calls_written one a).0 ∙ ap (λ (e : Ended). calls_of e.progress.records) same
          ∙ sym (ap (take vars) v.calls_are ∙ (calls_written two b).0);
      ways_same =
          ap (take vars) w.ways_are ∙ (ways_written one a).0 ∙ ap (λ (e : Ended). ways_of e.progress.records) same
          ∙ sym (ap (take vars) v.ways_are ∙ (ways_written two b).0);
      log_same =
          ap (take (log_length vars)) w.log_is ∙ (log_written one a).0 ∙ ap (λ (e : Ended). log_of_rows vars e.progress.rows) same
          ∙ sym (ap (take (log_length vars)) v.log_is ∙ (log_written two b).0);
    },
  )
    where
      same : run (task_of one) ≡ run (task_of two)
      same = run_order (task_of one) (with_held (clauses ds) other) (same_rules_held s h)
