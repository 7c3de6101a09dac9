-- The order of the rules matters neither to one valid setup nor to the witness of a free variable: the one is a run's first call, the other is read
-- off a run.
--
--   setups_any_order      two setups: the same numbers and values
--   witnesses_any_order   two witnesses: the same numbers and the same two models
--
-- Assumes nothing.
use mathlib.Core.Path.{◌≡◌, sym, ◌∙◌, ap}
use mathlib.Core.List.{List}
use mathlib.Core.Option.{Option}
use Prim.Native.Nat.{ℕ, pred}
use lib.IntN.{ℤ}
use lib.ListN.{take}
use Rattle.rules.specs.declared.Refusal.{Refusal}
use Rattle.rules.specs.declared.Report.{Report}
use Rattle.rules.specs.Meaning.{clauses}
use Rattle.rules.specs.Run.{Ended, blank, run}
use Rattle.rules.specs.Held.{with_held}
use Rattle.rules.specs.Answer.{report_of_run, report_if}
use Rattle.rules.specs.RunRefusals.{Accepted}
use Rattle.rules.specs.Setup.{setup_given, setup_run, setup_call, setup_report, setup_values, SetsUp}
use Rattle.rules.specs.Witness.{Asked, asked, asked_task, asked_report, literals_from, witness_at, FreeIn, lent_for, Witnesses}
use Rattle.rules.specs.Order.{SameRules, SameHeld}
use Rattle.rules.proofs.MeaningLaws.{blank_proper}
use Rattle.rules.proofs.SearchOrder.{call_on_order}
use Rattle.rules.proofs.OrderLaws.{same_rules_held, run_order}
use Rattle.rules.proofs.SetupTheorems.{setup_written}
use Rattle.rules.proofs.WitnessTheorems.{asked_answered, first_written, witness_written}

-- ---- a setup

pub setups_any_order : {es ds : List ℤ} {vars : ℕ} {held other : List ℤ} {budget : ℕ} {lent lent' after after' : List ℕ} {r r' : Report}
    → SetsUp (setup_given es vars held budget lent) r after → SetsUp (setup_given ds vars other budget lent') r' after'
    → Accepted (setup_run (setup_given es vars held budget lent)) → Accepted (setup_run (setup_given ds vars other budget lent'))
    → SameRules (clauses es) (clauses ds) → SameHeld held other → (r ≡ r') × (take vars after ≡ take vars after')
unfolding setup_call
setups_any_order {es} {ds} {vars} {held} {other} {budget} {lent} {lent'} w v a b s h =
    let one = setup_written (setup_given es vars held budget lent) a in
    let two = setup_written (setup_given ds vars other budget lent') b in (
      w.result_is ∙ one.0 ∙ ap setup_report same ∙ sym (v.result_is ∙ two.0),
      ap (take vars) w.values_are ∙ one.1 ∙ ap (setup_values vars) same ∙ sym (ap (take vars) v.values_are ∙ two.1),
    )
  where
    same : setup_call (setup_given es vars held budget lent) ≡ setup_call (setup_given ds vars other budget lent')
    same =
        let rules = same_rules_held s h in
        call_on_order budget rules.there rules.back (blank vars) 0 (blank_proper vars)

-- ---- a witness

module _ {es ds : List ℤ} {vars : ℕ} {held other : List ℤ} {budget limit variable : ℕ} {x x' y y' first first' witness witness' : List ℤ}
    {r r' : Report} (w : Witnesses (asked es vars held budget limit variable x y) r first witness)
    (v : Witnesses (asked ds vars other budget limit variable x' y') r' first' witness') where
  abbrev question : Asked
  question = asked es vars held budget limit variable x y

  abbrev again : Asked
  again = asked ds vars other budget limit variable x' y'

  pub witnesses_any_order : Accepted (lent_for question) → Accepted (lent_for again) → SameRules (clauses es) (clauses ds) → SameHeld held other
      → FreeIn vars (run (asked_task question)).progress variable
      → (r ≡ r') × (take vars first ≡ take vars first') × (take vars witness ≡ take vars witness')
  unfolding asked_report
  witnesses_any_order a b s h f = (
    w.result_is ∙ ap (λ (o : Option Refusal). report_if o (asked_task question)) ((asked_answered question).1 (a, f)) ∙ ap report_of_run same
        ∙ sym (v.result_is ∙ ap (λ (o : Option Refusal). report_if o (asked_task again)) ((asked_answered again).1 (b, g))),
    ap (take vars) w.first_is ∙ (first_written question a f).0 ∙ ap (λ (e : Ended). literals_from 0 e.progress.first) same
        ∙ sym (ap (take vars) v.first_is ∙ (first_written again b g).0),
    ap (take vars) w.witness_is ∙ (witness_written question a f).0 ∙ ap (λ (e : Ended). literals_from 0 (witness_at e.progress (pred variable))) same
        ∙ sym (ap (take vars) v.witness_is ∙ (witness_written again b g).0),
  )
    where
      same : run (asked_task question) ≡ run (asked_task again)
      same = run_order (asked_task question) (with_held (clauses ds) other) (same_rules_held s h)

      g : FreeIn vars (run (asked_task again)).progress variable
      g = rw (sym same) f
