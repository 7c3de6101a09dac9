-- From the promises of the crates below to those in numbers.
--   refused_place, ended_place     the place of a run that is refused, and of one that is not
--   reads_fit runs_fit sets_up_fit witnesses_fit   places and counts fit the fields of the structs
--   reads_in runs_in runs_lent sets_up_in witnesses_in     what is returned in numbers, with the buffers as they were left
-- Assumes nothing.
use mathlib.Core.Path.{◌≡◌, refl, ◌∙◌, ap}
use mathlib.Core.Logic.{◌⊎◌, inl, inr}
use mathlib.Core.List.{List, [], ◌∷◌}
use mathlib.Core.Option.{Option, none, some}
use Prim.Native.Nat.{ℕ, ◌≤◌}
use native.Mathlib.Omega.{arith}
use lib.IntN.{ℤ, pos}
use lib.ListN.{length, length-append}
use Rattle.rules.specs.declared.Reading.{Reading}
use Rattle.rules.specs.declared.Refusal.{Refusal}
use Rattle.rules.specs.declared.RunAnswer.{RunAnswer}
use Rattle.rules.specs.declared.Report.{Report}
use Rattle.rules.specs.Numbers.{max_entries, refusal_place, run_place}
use Rattle.texts.specs.Reading.{Judged, accepted, refused, judge, returned, reading_of, Reads}
use Rattle.rules.specs.Answer.{Given, Buffers, buffers, refusal_of, task_of, report_if, report_of, Runs}
use Rattle.rules.specs.RunRefusals.{RunRefuses, bad_limits, short_buffer, list_long, not_ended, zero_over, entry_over_vars}
use Rattle.rules.specs.RunRefusals.{many_held, bad_literal}
use Rattle.rules.specs.Witness.{Asked, asked_task, asked_refusal, asked_report, Witnesses}
use Rattle.rules.proofs.ListLaws.{apart}
use Rattle.rules.proofs.WitnessTheorems.{asked_refused, asked_answered}
use Rattle.texts.proofs.RefusalLaws.{refusal_sound}
use Rattle.texts.proofs.PlaceLaws.{refuses_place}
use Rattle.texts.proofs.PrintedLaws.{table_formed}
use Rattle.rules.proofs.RefusedRuns.{run_refused, run_accepted}
use Rattle.rules.proofs.RunTheorems.{run_answer_lem}
use Rattle.rules.specs.Search.{Call, model, no_model, stopped}
use Rattle.rules.specs.Setup.{SetupGiven, setup_refusal, setup_call, setup_report, setup_report_if, setup_report_of, SetsUp}
use Rattle.rules.proofs.SetupTheorems.{setup_refused}
use Rattle.igbezolum.specs.declared.IgbReading.{IgbReading}
use Rattle.igbezolum.specs.declared.IgbReport.{IgbReport}
use Rattle.igbezolum.specs.Linked.{reading_numbers, report_numbers, ReadsIn, RunsIn, SetsUpIn, WitnessesIn, ReadingFits}

-- ---- a reading

returned_is : {text : List ℕ} {before after : List ℤ} {r : Reading} → Reads text before r after → r ≡ returned (judge (length before) text)
unfolding reading_of
returned_is d = d.result_is

pub reads_fit : {text : List ℕ} {before after : List ℤ} {r : Reading} → Reads text before r after → ReadingFits r
reads_fit {text = text} {before = before} {r = r} d = go (judge (length before) text) refl (returned_is d)
  where
    go : (j : Judged) → judge (length before) text ≡ j → r ≡ returned j → ReadingFits r
    go (refused a) q e =
        rw e (record { place_fits = refuses_place (refusal_sound (length before) text q); count_fits = omega arith })
    go (accepted s es) q e =
        rw e (record { place_fits = omega arith; count_fits = (table_formed (length before) text q []).listed.entries_fit })

-- ---- a run

pub refused_place : {g : Given} {a : Refusal} → RunRefuses g a → refusal_place a ≤ max_entries
refused_place (bad_limits h) = omega arith
refused_place (short_buffer w h) = omega arith
refused_place (list_long w h) = omega arith
refused_place (not_ended w s front l q h) = s
refused_place (zero_over w s d front back q h) = omega (arith, s, ap length q, length-append front (pos 0 ∷ back))
refused_place (entry_over_vars w front l back q k h) = omega (arith, w.entries_fit, ap length q, length-append front (l ∷ back))
refused_place (many_held w h) = omega arith
refused_place (bad_literal w s front l back q k h) = omega (arith, ap length q, length-append front (l ∷ back))

pub ended_place : {a : RunAnswer} → (a ≡ RunAnswer.Settled) ⊎ ((a ≡ RunAnswer.NoModel) ⊎ (a ≡ RunAnswer.Stopped)) → run_place a ≤ max_entries
ended_place (inl h) = rw h (omega arith)
ended_place (inr (inl h)) = rw h (omega arith)
ended_place (inr (inr h)) = rw h (omega arith)

report_is : {g : Given} {r : Report} {after : Buffers} → Runs g r after → r ≡ report_if (refusal_of g) (task_of g)
unfolding report_of
report_is d = d.result_is

pub runs_fit : {g : Given} {r : Report} {after : Buffers} → Runs g r after → run_place r.answer ≤ max_entries
runs_fit {g = g} {r = r} d = go (refusal_of g) refl (report_is d)
  where
    go : (o : Option Refusal) → refusal_of g ≡ o → r ≡ report_if o (task_of g) → run_place r.answer ≤ max_entries
    go (some a) q e = rw e (refused_place ((run_refused g a).0 q))
    go none q e =
        rw e (ended_place (run_answer_lem (task_of g) ((run_accepted g).0 q).listed.lent.in_limits.limit_some))

-- ---- one valid setup

ended_call : (c : Call) → run_place (setup_report c).answer ≤ max_entries
ended_call (model m t) = omega arith
ended_call (no_model t) = omega arith
ended_call (stopped t) = omega arith

setup_report_is : {g : SetupGiven} {r : Report} {after : List ℕ} → SetsUp g r after → r ≡ setup_report_if (setup_refusal g) (setup_call g)
unfolding setup_report_of
setup_report_is d = d.result_is

pub sets_up_fit : {g : SetupGiven} {r : Report} {after : List ℕ} → SetsUp g r after → run_place r.answer ≤ max_entries
sets_up_fit {g = g} {r = r} d = go (setup_refusal g) refl (setup_report_is d)
  where
    go : (o : Option Refusal) → setup_refusal g ≡ o → r ≡ setup_report_if o (setup_call g) → run_place r.answer ≤ max_entries
    go (some a) q e = rw e (refused_place ((setup_refused g a).0 q))
    go none q e = rw e (ended_call (setup_call g))

-- ---- a witness

witness_report : {a : Asked} {r : Report} {first witness : List ℤ} → Witnesses a r first witness → r ≡ report_if (asked_refusal a) (asked_task a)
unfolding asked_report
witness_report d = d.result_is

pub witnesses_fit : {a : Asked} {r : Report} {first witness : List ℤ} → Witnesses a r first witness → run_place r.answer ≤ max_entries
witnesses_fit {a = a} {r = r} d = go (asked_refusal a) refl (witness_report d)
  where
    place : (b : Refusal) → asked_refusal a ≡ some b → refusal_place b ≤ max_entries
    place Refusal.ShortBuffer q = omega arith
    place Refusal.BadLimits q = omega arith
    place (Refusal.BadList at) q = refused_place ((asked_refused a (Refusal.BadList at) (λ z. apart cc)).0 q)
    place (Refusal.EntryOverVars at) q = refused_place ((asked_refused a (Refusal.EntryOverVars at) (λ z. apart cc)).0 q)
    place (Refusal.BadLiteral at) q = refused_place ((asked_refused a (Refusal.BadLiteral at) (λ z. apart cc)).0 q)
    place Refusal.NotFree q = omega arith
    place Refusal.ManyHeld q = omega arith

    go : (o : Option Refusal) → asked_refusal a ≡ o → r ≡ report_if o (asked_task a) → run_place r.answer ≤ max_entries
    go (some b) q e = rw e (place b q)
    go none q e =
        rw e (ended_place (run_answer_lem (asked_task a) ((asked_answered a).0 q).0.listed.lent.in_limits.limit_some))

-- ---- the promise in numbers follows from the promise of the crate below

pub reads_in : {text : List ℕ} {before after : List ℤ} {r : Reading} {n : IgbReading}
    → Reads text before r after → n ≡ reading_numbers r → ReadsIn text before n after
reads_in d e = record { result_is = e ∙ ap reading_numbers d.result_is; after_is = d.after_is }

pub runs_in : {g : Given} {r : Report} {after : Buffers} {n : IgbReport} → Runs g r after → n ≡ report_numbers r → RunsIn g n after
runs_in d e =
    record {
      result_is = e ∙ ap report_numbers d.result_is;
      status_is = d.status_is;
      calls_are = d.calls_are;
      ways_are = d.ways_are;
      hints_are = d.hints_are;
      log_is = d.log_is;
    }

-- the same of the buffers that were lent, where they hold what the run has left
pub runs_lent : {g : Given} {r : Report} {left : Buffers} {n : IgbReport} {status calls ways hints log : List ℕ}
    → Runs g r left → n ≡ report_numbers r → status ≡ left.status → calls ≡ left.calls → ways ≡ left.ways → hints ≡ left.hints → log ≡ left.log
    → RunsIn g n (buffers status calls ways hints log)
runs_lent d e s c w h l =
    record {
      result_is = e ∙ ap report_numbers d.result_is;
      status_is = s ∙ d.status_is;
      calls_are = c ∙ d.calls_are;
      ways_are = w ∙ d.ways_are;
      hints_are = h ∙ d.hints_are;
      log_is = l ∙ d.log_is;
    }

pub sets_up_in : {g : SetupGiven} {r : Report} {after : List ℕ} {n : IgbReport} → SetsUp g r after → n ≡ report_numbers r → SetsUpIn g n after
sets_up_in d e = record { result_is = e ∙ ap report_numbers d.result_is; values_are = d.values_are }

pub witnesses_in : {a : Asked} {r : Report} {first witness : List ℤ} {n : IgbReport} → Witnesses a r first witness → n ≡ report_numbers r
    → WitnessesIn a n first witness
witnesses_in d e = record { result_is = e ∙ ap report_numbers d.result_is; first_is = d.first_is; witness_is = d.witness_is }
