-- The laws of `run`: what is refused, and what is accepted.
--
--   found_some, found_none     what code finds, back to the rules
--   checked_is        what is checked is what a run is refused for
--   runs_refused      a refused run: zero counts, and nothing is written
--   runs_accepted     an accepted one: the run over the fronts of the buffers
--   not_refused, accepted     what no rule refuses
--   list, clauses_are, entries_most, is-formula, clauses_most, records_lent, hints_len, log_len, allowed     and what its run requires
--
-- Assumes nothing.
use mathlib.Core.Path.{◌≡◌, refl, sym, ◌∙◌, ap}
use mathlib.Core.Bool.{Bool}
use mathlib.Core.List.{List, ◌++◌}
use mathlib.Core.Option.{Option, none, some}
use Prim.Native.Nat.{ℕ, ◌+◌, ◌≤◌}
use native.Mathlib.Omega.{arith}
use lib.IntN.{ℤ}
use lib.ListN.{length, take, drop}
use lib.Seq.{length-take-le}
use Rattle.rules.specs.declared.Refusal.{Refusal}
use Rattle.rules.specs.declared.RunAnswer.{RunAnswer}
use Rattle.rules.specs.declared.Report.{Report}
use Rattle.rules.specs.Lists.{first_of}
use Rattle.rules.specs.Numbers.{max_clauses, max_entries, max_held}
use Rattle.rules.specs.Meaning.{Clause, clauses}
use Rattle.rules.specs.Run.{run}
use Rattle.rules.specs.Hints.{hints_of}
use Rattle.rules.specs.Held.{with_held, list_with}
use Rattle.rules.specs.Answer.{Given, Buffers, buffers, log_length, refusal_of, task_of, report_if, report_of, status_if, status_after}
use Rattle.rules.specs.Answer.{calls_if, calls_after, ways_if, ways_after, hints_if, hints_after}
use Rattle.rules.specs.Answer.{taking_rules, out_of_limits, is_short, log_if, log_after, Runs}
use Rattle.rules.specs.RunRefusals.{Accepted}
use Rattle.rules.proofs.ListLaws.{apart}
use Rattle.rules.proofs.ClauseLaws.{length-clauses}
use Rattle.rules.proofs.HeldLaws.{length-with_held, clauses_held, length-list_with, list_with_up_to}
use Rattle.rules.proofs.RefusedRuns.{run_accepted}
use Rattle.std.specs.Prelude.{Result, Ok, Err}
use Rattle.refusals.specs.Refuse.{found}
use Rattle.formula.specs.Starts.{starts_of}
use Rattle.formula.specs.Formula.{Formula}
use Rattle.calls.specs.declared.next.Limits.{Limits}
use Rattle.calls.specs.Next.{Allowed, task}
use Rattle.calls.specs.Records.{ShowsRecords, RecordsLent}
use Rattle.backbone.specs.First.{RunDone, HintsDone}

pub found_some : (o : Option Refusal) {a : Refusal} → Err a ≡ found o → o ≡ some a
found_some none e = apart cc
found_some (some b) e = cc

pub found_none : (o : Option Refusal) → Ok tt ≡ found o → o ≡ none
found_none none e = refl
found_none (some b) e = apart cc

-- the limits that a run is given
abbrev pub limits_of : Given → Limits
limits_of g = record { budget = g.budget; chunk = g.limit }

module _ (g : Given) where
  -- what the rules say of the list, with 10 and 1 as a run has them
  pub checked_is : {bad short : Bool} {c : Result (Unit {0}) Refusal} → bad ≡ out_of_limits g.vars g.limit → short ≡ is_short g
      → c ≡ found (first_of (taking_rules bad short g.entries g.vars g.held)) → c ≡ found (refusal_of g)
  unfolding refusal_of
  checked_is b s e = rw (b, s) at e

  pub runs_refused : {a : Refusal} → Err a ≡ found (refusal_of g)
      → Runs g (record { answer = RunAnswer.Refused a; calls = 0; tries = 0; forced = 0; free = 0 })
      (buffers g.status g.calls g.ways g.hints g.log)
  unfolding report_of status_after calls_after ways_after hints_after log_after
  runs_refused e =
      let o = found_some (refusal_of g) e in
      record {
        result_is = ap (λ (r : Option Refusal). report_if r (task_of g)) (sym o);
        status_is = ap (λ (r : Option Refusal). status_if r (task_of g) g.status) (sym o);
        calls_are = ap (λ (r : Option Refusal). calls_if r (task_of g) g.calls) (sym o);
        ways_are = ap (λ (r : Option Refusal). ways_if r (task_of g) g.ways) (sym o);
        hints_are = ap (λ (r : Option Refusal). hints_if r (task_of g) g.hints) (sym o);
        log_is = ap (λ (r : Option Refusal). log_if r (task_of g) g.log) (sym o);
      }

  -- what was checked, and came to this
  pub not_refused : {bad short : Bool} {c : Result (Unit {0}) Refusal} → bad ≡ out_of_limits g.vars g.limit → short ≡ is_short g
      → c ≡ found (first_of (taking_rules bad short g.entries g.vars g.held)) → c ≡ Ok tt → Ok tt ≡ found (refusal_of g)
  not_refused b s e q = sym q ∙ checked_is b s e

  module _ (e : Ok tt ≡ found (refusal_of g)) where
    pub accepted : Accepted g
    accepted = (run_accepted g).0 (found_none (refusal_of g) e)

    status_len : length (take g.vars g.status) ≡ g.vars
    status_len = length-take-le g.vars g.status accepted.listed.lent.status_fits

    -- the one list, and its clauses
    abbrev pub list : List ℤ
    list = list_with g.entries g.held

    pub clauses_are : clauses list ≡ with_held (clauses g.entries) g.held
    clauses_are = clauses_held g.entries g.held accepted.listed.ended (λ l i. (accepted.holdable.up_to l i).some)

    pub entries_most : length list ≤ max_entries + (max_held + max_held)
    entries_most = omega (arith, length-list_with g.entries g.held, accepted.listed.entries_fit, accepted.holdable.few)

    pub clauses_most : length (clauses list) ≤ max_clauses + max_held
    clauses_most =
        omega (
          arith,
          ap length clauses_are,
          length-with_held (clauses g.entries) g.held,
          length-clauses g.entries,
          accepted.listed.clauses_fit,
          accepted.holdable.few,
        )

    pub is-formula : Formula (length (take g.vars g.status)) list (starts_of list)
    is-formula =
        record {
          vars_fit = rw status_len accepted.listed.lent.in_limits.vars_fit;
          entries_most = entries_most;
          clauses_most = clauses_most;
          starts_are = refl;
          up_to = rw status_len (list_with_up_to g.entries g.held accepted.up_to accepted.holdable.up_to);
        }

    pub log_len : length (take (log_length g.vars) g.log) ≡ log_length (length (take g.vars g.status))
    log_len = length-take-le (log_length g.vars) g.log accepted.listed.lent.log_fits ∙ ap log_length (sym status_len)

    pub hints_len : length (take g.vars g.hints) ≡ length (take g.vars g.status)
    hints_len = length-take-le g.vars g.hints accepted.listed.lent.hints_fit ∙ sym status_len

    pub allowed : Allowed (limits_of g)
    allowed = record { some = accepted.listed.lent.in_limits.limit_some; most = accepted.listed.lent.in_limits.limit_fits }

    pub records_lent : RecordsLent (take g.vars g.status) (take g.vars g.calls) (take g.vars g.ways)
    records_lent =
        record {
          calls_len = length-take-le g.vars g.calls accepted.listed.lent.calls_fit ∙ sym status_len;
          ways_len = length-take-le g.vars g.ways accepted.listed.lent.ways_fit ∙ sym status_len;
        }

    -- the fronts that were written, and what stood behind them
    abbrev pub rejoined : List ℕ → List ℕ → List ℕ → List ℕ → List ℕ → Buffers
    rejoined status calls ways hints log =
        buffers (status ++ drop g.vars g.status) (calls ++ drop g.vars g.calls) (ways ++ drop g.vars g.ways)
        (hints ++ drop g.vars g.hints) (log ++ drop (log_length g.vars) g.log)

    pub runs_accepted : {r : Report} {first status calls ways hints log : List ℕ}
        → HintsDone list (length (take g.vars g.status)) (limits_of g) r first status calls ways hints log
        → Runs g r (rejoined status calls ways hints log)
    unfolding report_of status_after calls_after ways_after hints_after log_after
    runs_accepted {r} {first} {status} {calls} {ways} {hints} {log} w =
        let d = rw status_len at w in
        go (rw task_is at d.run_done.done) (rw task_is at d.run_done.records) (d.hints_are ∙ ap hints_of task_is)
      where
        task_is : task list g.vars (limits_of g) ≡ task_of g
        task_is = ap (λ (F : List Clause). record { vars = g.vars; budget = g.budget; limit = g.limit; formula = F }) clauses_are

        o : refusal_of g ≡ none
        o = found_none (refusal_of g) e

        go : RunDone (task_of g) r status log → ShowsRecords (run (task_of g)).progress.records calls ways → hints ≡ hints_of (task_of g)
            → Runs g r (rejoined status calls ways hints log)
        go w x h =
            record {
              result_is = w.result_is ∙ ap (λ (r : Option Refusal). report_if r (task_of g)) (sym o);
              status_is = ap (λ (xs : List ℕ). xs ++ drop g.vars g.status) w.status_is
                  ∙ ap (λ (r : Option Refusal). status_if r (task_of g) g.status) (sym o);
              calls_are = ap (λ (xs : List ℕ). xs ++ drop g.vars g.calls) x.calls_are
                  ∙ ap (λ (r : Option Refusal). calls_if r (task_of g) g.calls) (sym o);
              ways_are = ap (λ (xs : List ℕ). xs ++ drop g.vars g.ways) x.ways_are
                  ∙ ap (λ (r : Option Refusal). ways_if r (task_of g) g.ways) (sym o);
              hints_are = ap (λ (xs : List ℕ). xs ++ drop g.vars g.hints) h
                  ∙ ap (λ (r : Option Refusal). hints_if r (task_of g) g.hints) (sym o);
              log_is = ap (λ (xs : List ℕ). xs ++ drop (log_length g.vars) g.log) w.log_is
                  ∙ ap (λ (r : Option Refusal). log_if r (task_of g) g.log) (sym o);
            }
