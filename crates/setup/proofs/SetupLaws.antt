-- The laws of one valid setup: the end of the call, and what is refused and accepted.
--
--   done_told         the end of the first call, told, is what is defined
--   open_run, taken   what is accepted, and what the call on the list then requires
--   sets_up_refused, sets_up_accepted     what is returned and written
--
-- Assumes nothing.
use mathlib.Core.Path.{◌≡◌, sym, ◌∙◌, ap}
use mathlib.Core.List.{List, ◌++◌}
use mathlib.Core.Option.{Option, none}
use Prim.Native.Nat.{ℕ, ◌≤◌}
use lib.IntN.{ℤ}
use lib.ListN.{length, take, drop}
use lib.Seq.{length-take-le}
use Rattle.rules.specs.declared.Refusal.{Refusal}
use Rattle.rules.specs.declared.RunAnswer.{RunAnswer}
use Rattle.rules.specs.declared.Report.{Report}
use Rattle.rules.specs.declared.Outcome.{Outcome}
use Rattle.rules.specs.Meaning.{Clause, Values}
use Rattle.rules.specs.Search.{Call, model, no_model, stopped, outcome_of, call_on}
use Rattle.rules.specs.Run.{blank}
use Rattle.rules.specs.Held.{list_with}
use Rattle.rules.specs.Answer.{refusal_of}
use Rattle.rules.specs.RunRefusals.{Accepted}
use Rattle.rules.specs.Setup.{SetupGiven, setup_refusal, setup_run, setup_call, setup_report, setup_values, setup_report_if, setup_report_of, setup_values_if}
use Rattle.rules.specs.Setup.{setup_values_after, SetsUp}
use Rattle.rules.proofs.SetupTheorems.{refusal_same}
use Rattle.std.specs.Prelude.{Ok, Err}
use Rattle.refusals.specs.Refuse.{found}
use Rattle.search.specs.declared.call.CallEnd.{CallEnd}
use Rattle.search.specs.Calls.{values_after, CallEnds}
use Rattle.calls.specs.After.{answer_of}
use Rattle.backbone.specs.First.{first_on}
use Rattle.backbone.proofs.RunLaws as run-laws
use Rattle.setup.specs.Called.{bits_if, Told, SetupTaken, SetupDone}

-- ---- the end of the call

told_report : (c : Call) {o : Outcome} → o ≡ outcome_of c → answer_of o ≡ (setup_report c).answer
told_report (model m t) e = ap answer_of e
told_report (no_model t) e = ap answer_of e
told_report (stopped t) e = ap answer_of e

told_values : (n : ℕ) (c : Call) {o : Outcome} {vs : Values} → o ≡ outcome_of c → vs ≡ values_after c (blank n) → bits_if o vs ≡ setup_values n c
told_values n (model m t) e f = rw (e, f)
told_values n (no_model t) e f = rw (e, f)
told_values n (stopped t) e f = rw (e, f)

pub done_told : (es : List ℤ) (n budget : ℕ) {end : CallEnd} {vs after : Values} {r : Report}
    → CallEnds (first_on es n budget) (blank n) budget end vs → Told end vs r after → SetupDone es n budget r after
done_told es n budget {end} w t =
    let c = first_on es n budget in
    record {
      result_is =
          t.result_is ∙
          ap (λ (a : RunAnswer). record { answer = a; calls = 1; tries = end.meter.spent; forced = 0; free = 0 }) (told_report c w.outcome_is) ∙
          ap (λ (u : ℕ). record { answer = (setup_report c).answer; calls = 1; tries = u; forced = 0; free = 0 }) w.spent_is;
      values_are = t.after_is ∙ told_values n c w.outcome_is w.values_are;
    }

-- ---- refused, and accepted

module _ (g : SetupGiven) where
  pub sets_up_refused : {a : Refusal} → Err a ≡ found (setup_refusal g)
      → SetsUp g (record { answer = RunAnswer.Refused a; calls = 0; tries = 0; forced = 0; free = 0 }) g.values
  unfolding setup_report_of setup_values_after
  sets_up_refused e =
      let o = run-laws.found_some (setup_refusal g) e in
      record {
        result_is = ap (λ (o : Option Refusal). setup_report_if o (setup_call g)) (sym o);
        values_are = ap (λ (o : Option Refusal). setup_values_if o g.vars (setup_call g) g.values) (sym o);
      }

  module _ (e : Ok tt ≡ found (setup_refusal g)) where
    as_run : Ok tt ≡ found (refusal_of (setup_run g))
    as_run = e ∙ ap found (refusal_same g)

    pub open_run : Accepted (setup_run g)
    open_run = run-laws.accepted (setup_run g) as_run

    pub values_fit : g.vars ≤ length g.values
    values_fit = open_run.listed.lent.status_fits

    values_len : length (take g.vars g.values) ≡ g.vars
    values_len = length-take-le g.vars g.values open_run.listed.lent.status_fits

    pub taken : SetupTaken (length (take g.vars g.values)) (list_with g.entries g.held)
    taken =
        record {
          formula = run-laws.is-formula (setup_run g) as_run;
          entries_most = run-laws.entries_most (setup_run g) as_run;
          clauses_most = run-laws.clauses_most (setup_run g) as_run;
        }

    pub sets_up_accepted : {r : Report} {after : List ℕ}
        → SetupDone (list_with g.entries g.held) (length (take g.vars g.values)) g.budget r after
        → SetsUp g r (after ++ drop g.vars g.values)
    unfolding setup_report_of setup_values_after setup_call
    sets_up_accepted {r} {after} w = go (rw values_len at w)
      where
        o : setup_refusal g ≡ none
        o = run-laws.found_none (setup_refusal g) e

        call_is : first_on (list_with g.entries g.held) g.vars g.budget ≡ setup_call g
        call_is = ap (λ (F : List Clause). call_on g.budget F (blank g.vars) 0) (run-laws.clauses_are (setup_run g) as_run)

        go : SetupDone (list_with g.entries g.held) g.vars g.budget r after → SetsUp g r (after ++ drop g.vars g.values)
        go d =
            record {
              result_is = d.result_is ∙ ap setup_report call_is ∙ ap (λ (o : Option Refusal). setup_report_if o (setup_call g)) (sym o);
              values_are =
                  ap (λ (xs : List ℕ). xs ++ drop g.vars g.values) (d.values_are ∙ ap (setup_values g.vars) call_is) ∙
                  ap (λ (o : Option Refusal). setup_values_if o g.vars (setup_call g) g.values) (sym o);
            }
