-- What a caller of `igb_witness` has by its contract, in C's numbers.
--
--   witnesses_back            the numbers lose nothing: the answer that they stand for keeps the promise of `witness::witness`
--   witnesses_in_unique       no second result and buffers meet the contract
--   witness_pair              where the variable is free: V literals each, of two models that differ on it
--   witness_not_free          14 exactly if the list is accepted and the variable is not free in its run
--   witness_nothing           what is refused returns zero counts and writes nothing
--
-- Assumes nothing.
use mathlib.Core.Path.{◌≡◌, refl, sym, ◌∙◌, ap}
use mathlib.Core.Logic.{◌⊎◌, inl, inr, ◌↔◌}
use mathlib.Core.List.{List}
use mathlib.Core.Option.{Option, none, some}
use Prim.Native.Nat.{pred}
use native.Mathlib.Omega.{arith}
use lib.IntN.{ℤ}
use lib.ListN.{take}
use Rattle.rules.specs.declared.Refusal.{Refusal}
use Rattle.rules.specs.declared.RunAnswer.{RunAnswer}
use Rattle.rules.specs.declared.Report.{Report}
use Rattle.rules.specs.Numbers.{refusal_number, run_number}
use Rattle.rules.specs.Meaning.{clauses}
use Rattle.rules.specs.Run.{Progress, run}
use Rattle.rules.specs.Held.{with_held}
use Rattle.rules.specs.Answer.{report_if}
use Rattle.rules.specs.RunRefusals.{Accepted}
use Rattle.rules.specs.Witness.{witness_at, PairAt, FreeIn, Asked, asked_task, asked_refusal, asked_report, literals_from, Witnesses, lent_for}
use Rattle.rules.proofs.RunTheorems.{run_answer_lem}
use Rattle.rules.proofs.Theorems as theorems
use Rattle.igbezolum.specs.declared.IgbReport.{IgbReport}
use Rattle.igbezolum.specs.Linked.{WitnessesIn}
use Rattle.igbezolum.proofs.Promises.{report_from, report_back}

pub witnesses_back : {a : Asked} {n : IgbReport} {first witness : List ℤ} → WitnessesIn a n first witness → Witnesses a (report_from n) first witness
witnesses_back {a = a} d =
    record { result_is = ap report_from d.result_is ∙ report_back (asked_report a); first_is = d.first_is; witness_is = d.witness_is }

pub witnesses_in_unique : {a : Asked} {n m : IgbReport} {x y u v : List ℤ} → WitnessesIn a n x y → WitnessesIn a m u v
    → (n ≡ m) × (x ≡ u) × (y ≡ v)
witnesses_in_unique d e = (d.result_is ∙ sym e.result_is, d.first_is ∙ sym e.first_is, d.witness_is ∙ sym e.witness_is)

report_if_lem : (a : Asked) {o : Option Refusal} → asked_refusal a ≡ o → asked_report a ≡ report_if o (asked_task a)
unfolding asked_report
report_if_lem a q = ap (λ (o : Option Refusal). report_if o (asked_task a)) q

not_ended : (b : RunAnswer) → (b ≡ RunAnswer.Settled) ⊎ ((b ≡ RunAnswer.NoModel) ⊎ (b ≡ RunAnswer.Stopped)) → run_number b ≡ 14 → ⊥
not_ended b (inl z) e = omega (arith, e, ap run_number z)
not_ended b (inr (inl z)) e = omega (arith, e, ap run_number z)
not_ended b (inr (inr z)) e = omega (arith, e, ap run_number z)

fourteen_is : (r : Refusal) → refusal_number r ≡ 14 → r ≡ Refusal.NotFree
fourteen_is Refusal.ShortBuffer z = absurd (omega (arith, z))
fourteen_is Refusal.BadLimits z = absurd (omega (arith, z))
fourteen_is (Refusal.BadList at) z = absurd (omega (arith, z))
fourteen_is (Refusal.EntryOverVars at) z = absurd (omega (arith, z))
fourteen_is (Refusal.BadLiteral at) z = absurd (omega (arith, z))
fourteen_is Refusal.NotFree z = refl
fourteen_is Refusal.ManyHeld z = absurd (omega (arith, z))

module _ {a : Asked} {n : IgbReport} {first witness : List ℤ} (w : WitnessesIn a n first witness) where
  abbrev p : Progress
  p = (run (asked_task a)).progress

  number_is : {o : Option Refusal} → asked_refusal a ≡ o → n.answer ≡ run_number (report_if o (asked_task a)).answer
  number_is q = ap (λ (m : IgbReport). m.answer) w.result_is ∙ ap (λ (r : Report). run_number r.answer) (report_if_lem a q)

  -- nothing is refused where the variable is free in the run of an accepted list: V literals each, of two models that differ on it
  pub witness_pair : Accepted (lent_for a) → FreeIn a.vars p a.variable
      → PairAt a.vars (with_held (clauses a.entries) a.held) p (pred a.variable)
      × (take a.vars first ≡ literals_from 0 p.first) × (take a.vars witness ≡ literals_from 0 (witness_at p (pred a.variable)))
  witness_pair h f = (
    theorems.witness_pair a h f,
    ap (take a.vars) w.first_is ∙ (theorems.witness_first a h f).0,
    ap (take a.vars) w.witness_is ∙ (theorems.witness_second a h f).0,
  )

  -- 14 is answered exactly if the list is accepted and the variable is not free in its run
  pub witness_not_free : (n.answer ≡ 14) ↔ (Accepted (lent_for a) × (FreeIn a.vars p a.variable → ⊥))
  witness_not_free = (λ e. (theorems.witness_not_free a).0 (by (asked_refusal a) refl e), λ h. number_is ((theorems.witness_not_free a).1 h))
    where
      by : (o : Option Refusal) → asked_refusal a ≡ o → n.answer ≡ 14 → asked_refusal a ≡ some Refusal.NotFree
      by none q e =
          let (h, f) = (theorems.witness_answered a).0 q in
          absurd
          (not_ended (run (asked_task a)).answer (run_answer_lem (asked_task a) h.listed.lent.in_limits.limit_some) (sym (number_is q) ∙ e))
      by (some r) q e = q ∙ ap some (fourteen_is r (sym (number_is q) ∙ e))

  -- what is refused returns zero counts and writes nothing
  pub witness_nothing : (r : Refusal) → asked_refusal a ≡ some r
      → (n.calls ≡ 0) × (n.tries ≡ 0) × (n.forced ≡ 0) × (n.free ≡ 0) × (first ≡ a.first) × (witness ≡ a.witness)
  witness_nothing r q =
      let (e, x, y) = theorems.witness_refused_nothing a r q in (
        ap (λ (m : IgbReport). m.calls) w.result_is ∙ ap (λ (m : Report). m.calls) e,
        ap (λ (m : IgbReport). m.tries) w.result_is ∙ ap (λ (m : Report). m.tries) e,
        ap (λ (m : IgbReport). m.forced) w.result_is ∙ ap (λ (m : Report). m.forced) e,
        ap (λ (m : IgbReport). m.free) w.result_is ∙ ap (λ (m : Report). m.free) e,
        w.first_is ∙ x,
        w.witness_is ∙ y,
      )
