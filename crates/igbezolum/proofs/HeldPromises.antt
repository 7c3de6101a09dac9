-- What a caller in C or Rust gets of held literals and of one valid setup from the contracts alone, in its numbers.
--
--   held_more         of two runs where the second holds more: what is forced stays forced unless that answers 20 or is stopped
--   held_free         either literal of a variable marked free may be held too: that never answers 20
--   held_signs        both signs of a variable held: 20, with no try
--   as_before         with no held literal everything is as it was without such a list
--   sets_up_in_unique sets_up_back     igb_setup: no second result, and the numbers lose nothing
--   setup_answered setup_refused_exactly     0, 20 or 21 exactly if no rule refuses; each refusal number and place exactly
--   setup_nothing setup_rest     refused, it writes nothing; what stands behind the values always stays
--   setup_first setup_none setup_zeros setup_counts     the first model, 20 exactly if there is none unless stopped, and what is counted
--
-- Assumes nothing.
use mathlib.Core.Path.{◌≡◌, refl, sym, ◌∙◌, ap}
use mathlib.Core.Logic.{◌≢◌, ◌⊎◌, inl, inr, ◌↔◌}
use mathlib.Core.List.{List, [], ◌∷◌, ◌++◌}
use mathlib.Core.Option.{Option, none, some}
use Prim.Native.Nat.{ℕ, ◌≤◌}
use native.Mathlib.Omega.{arith}
use lib.IntN.{ℤ}
use lib.ListN.{take, drop, replicate}
use Rattle.rules.specs.declared.Refusal.{Refusal}
use Rattle.rules.specs.declared.RunAnswer.{RunAnswer}
use Rattle.rules.specs.declared.Report.{Report}
use Rattle.rules.specs.Lists.{In}
use Rattle.rules.specs.Numbers.{refusal_number, refusal_place, run_number, run_place}
use Rattle.rules.specs.Meaning.{negated, LitUpTo, index_of, clauses}
use Rattle.rules.specs.Models.{NoModel}
use Rattle.rules.specs.Search.{Call, model, no_model, stopped, tries_of}
use Rattle.rules.specs.Run.{status_at, is_forced_to}
use Rattle.rules.specs.Held.{with_held}
use Rattle.rules.specs.Answer.{Given, Buffers, given, plain_refusal, plain_task, report_if, status_if, hints_if, log_if}
use Rattle.rules.specs.RunRefusals.{Accepted, RunRefuses}
use Rattle.rules.specs.Setup.{SetupGiven, setup_refusal, setup_run, setup_call, setup_answer, setup_report, setup_report_of, setup_values}
use Rattle.rules.specs.Setup.{SetsUp, FirstSetup}
use Rattle.rules.proofs.Theorems as theorems
use Rattle.backbone.proofs.Promises as run
use Rattle.igbezolum.specs.declared.IgbReport.{IgbReport}
use Rattle.igbezolum.specs.Linked.{report_numbers, RunsIn, SetsUpIn}
use Rattle.igbezolum.proofs.Promises.{Answered, report_from, run_answer_numbers, report_back, runs_back, answered, answer_of_lem, number_is}

-- ---- held literals

-- Of two runs of one formula where the second holds more, and is not stopped: every literal forced in the first is forced in the second
-- unless the second answers 20.
pub held_more : {es : List ℤ} {vars : ℕ} (held more : List ℤ) (budget limit budget' limit' : ℕ) {lent lent' after after' : Buffers} {n n' : IgbReport}
    → RunsIn (given es vars held budget limit lent) n after → RunsIn (given es vars (held ++ more) budget' limit' lent') n' after'
    → Answered n → Answered n' → n'.answer ≢ 21 → n'.answer ≢ 20 → (l : ℤ) → LitUpTo vars l
    → is_forced_to (take vars after.status) l → is_forced_to (take vars after'.status) l
held_more held more budget limit budget' limit' w v a b s m =
    run.held_more held more budget limit budget' limit' (runs_back w) (runs_back v) ((answered w).0 a) ((answered v).0 b)
    (λ e. s (number_is v ∙ ap run_number e)) (λ e. m (number_is v ∙ ap run_number e))

-- Either literal of a variable that a run marks free may be held too: that never answers 20.
pub held_free : {es : List ℤ} {vars : ℕ} (held : List ℤ) (l : ℤ) (budget limit budget' limit' : ℕ) {lent lent' after after' : Buffers} {n n' : IgbReport}
    → RunsIn (given es vars held budget limit lent) n after → RunsIn (given es vars (held ++ (l ∷ [])) budget' limit' lent') n' after'
    → Answered n → LitUpTo vars l → status_at (take vars after.status) (index_of l) ≡ 1 → n'.answer ≢ 20
held_free held l budget limit budget' limit' w v a u f e =
    run.held_free held l budget limit budget' limit' (runs_back w) (runs_back v) ((answered w).0 a) ((answered v).0 (inr (inl e))) u f (answer_of_lem v 20 e)

module _ {g : Given} {n : IgbReport} {after : Buffers} (w : RunsIn g n after) where
  -- Both signs of a variable held: 20, and no try is needed to find that.
  pub held_signs : Answered n → (l : ℤ) → In l g.held → In (negated l) g.held → (n.answer ≡ 20) × (n.tries ≡ 0)
  held_signs a l this other =
      let (e, t) = run.held_signs (runs_back w) ((answered w).0 a) l this other in (number_is w ∙ ap run_number e, t)

  -- With an empty list all results are those of the rules without one.
  pub as_before : g.held ≡ []
      → let o = plain_refusal g in
      let k = plain_task g in
      (n ≡ report_numbers (report_if o k)) × (after.status ≡ status_if o k g.status) × (after.hints ≡ hints_if o k g.hints)
      × (after.log ≡ log_if o k g.log)
  as_before e =
      let (r, s, h, l) = run.as_before (runs_back w) e in
      (w.result_is ∙ ap report_numbers (sym (runs_back w).result_is ∙ r), s, h, l)

-- ---- one valid setup

pub sets_up_back : {g : SetupGiven} {n : IgbReport} {after : List ℕ} → SetsUpIn g n after → SetsUp g (report_from n) after
sets_up_back {g} d = record { result_is = ap report_from d.result_is ∙ report_back (setup_report_of g); values_are = d.values_are }

pub sets_up_in_unique : {g : SetupGiven} {n m : IgbReport} {b c : List ℕ} → SetsUpIn g n b → SetsUpIn g m c → (n ≡ m) × (b ≡ c)
sets_up_in_unique d e = (d.result_is ∙ sym e.result_is, d.values_are ∙ sym e.values_are)

-- the answers of a call that ended
call_answered : (c : Call) → (run_number (setup_answer c) ≡ 0) ⊎ ((run_number (setup_answer c) ≡ 20) ⊎ (run_number (setup_answer c) ≡ 21))
call_answered (model m t) = inl refl
call_answered (no_model t) = inr (inl refl)
call_answered (stopped t) = inr (inr refl)

none_of : (k : ℕ) → k ≢ 0 → k ≢ 20 → k ≢ 21 → (k ≡ 0) ⊎ ((k ≡ 20) ⊎ (k ≡ 21)) → ⊥
none_of k a b c (inl e) = a e
none_of k a b c (inr (inl e)) = b e
none_of k a b c (inr (inr e)) = c e

refusal_number_lem : (b : Refusal) → (refusal_number b ≡ 0) ⊎ ((refusal_number b ≡ 20) ⊎ (refusal_number b ≡ 21)) → ⊥
refusal_number_lem Refusal.ShortBuffer = none_of 1 (omega arith) (omega arith) (omega arith)
refusal_number_lem Refusal.BadLimits = none_of 10 (omega arith) (omega arith) (omega arith)
refusal_number_lem (Refusal.BadList at) = none_of 11 (omega arith) (omega arith) (omega arith)
refusal_number_lem (Refusal.EntryOverVars at) = none_of 12 (omega arith) (omega arith) (omega arith)
refusal_number_lem (Refusal.BadLiteral at) = none_of 13 (omega arith) (omega arith) (omega arith)
refusal_number_lem Refusal.NotFree = none_of 14 (omega arith) (omega arith) (omega arith)
refusal_number_lem Refusal.ManyHeld = none_of 15 (omega arith) (omega arith) (omega arith)

module _ {g : SetupGiven} {n : IgbReport} {after : List ℕ} (w : SetsUpIn g n after) where
  -- the answer that the numbers stand for
  setup_answer_is : (report_from n).answer ≡ (setup_report_of g).answer
  setup_answer_is = ap (λ (r : Report). r.answer) (sets_up_back w).result_is

  setup_number : n.answer ≡ run_number (setup_report_of g).answer
  setup_number = ap (λ (m : IgbReport). m.answer) w.result_is

  setup_place : n.place ≡ run_place (setup_report_of g).answer
  setup_place = ap (λ (m : IgbReport). m.place) w.result_is

  -- what is returned where no rule refuses
  accepted_numbers : Accepted (setup_run g) → n ≡ report_numbers (setup_report (setup_call g))
  accepted_numbers h = w.result_is ∙ ap report_numbers (theorems.setup_writes g h).0

  -- each refusal number and place exactly when its rule says so of a run with the values in the place of the statuses
  pub setup_refused_exactly : (a : Refusal) → ((n.answer ≡ refusal_number a) × (n.place ≡ refusal_place a)) ↔ RunRefuses (setup_run g) a
  setup_refused_exactly a = (go (setup_refusal g) refl, back)
    where
      back : RunRefuses (setup_run g) a → (n.answer ≡ refusal_number a) × (n.place ≡ refusal_place a)
      back h =
          let e = ap (λ (r : Report). r.answer) (theorems.setup_refused_nothing g a h).0 in
          (setup_number ∙ ap run_number e, setup_place ∙ ap run_place e)

      go : (o : Option Refusal) → setup_refusal g ≡ o → (n.answer ≡ refusal_number a) × (n.place ≡ refusal_place a) → RunRefuses (setup_run g) a
      go none q e =
          let h = (theorems.setup_acceptance g).0 q in
          absurd
          (refusal_number_lem a
          (rw (sym (sym (ap (λ (m : IgbReport). m.answer) (accepted_numbers h)) ∙ e.0)) (call_answered (setup_call g))))
      go (some b) q e =
          let h = (theorems.setup_refusals g b).0 q in
          let said = ap (λ (r : Report). r.answer) (theorems.setup_refused_nothing g b h).0 in
          let same : RunAnswer.Refused b ≡ RunAnswer.Refused a =
          sym (setup_answer_is ∙ said) ∙ cc (e.0, e.1) ∙ run_answer_numbers (RunAnswer.Refused a) in
          let inner : b ≡ a = cc in
          rw (← inner) h

  -- 0, 20 or 21 is answered exactly if no rule refuses
  pub setup_answered : Answered n ↔ Accepted (setup_run g)
  setup_answered = (go (setup_refusal g) refl, λ h. rw (accepted_numbers h) (call_answered (setup_call g)))
    where
      go : (o : Option Refusal) → setup_refusal g ≡ o → Answered n → Accepted (setup_run g)
      go none q a = (theorems.setup_acceptance g).0 q
      go (some b) q a =
          let said = ap (λ (r : Report). r.answer) (theorems.setup_refused_nothing g b ((theorems.setup_refusals g b).0 q)).0 in
          absurd (refusal_number_lem b (rw (sym (setup_number ∙ ap run_number said)) a))

  -- refused, it returns zero counts and writes nothing
  pub setup_nothing : (a : Refusal) → RunRefuses (setup_run g) a
      → (n.calls ≡ 0) × (n.tries ≡ 0) × (n.forced ≡ 0) × (n.free ≡ 0) × (after ≡ g.values)
  setup_nothing a h =
      let (r, v) = theorems.setup_refused_nothing g a h in
      let e = w.result_is ∙ ap report_numbers r in (
        ap (λ (m : IgbReport). m.calls) e,
        ap (λ (m : IgbReport). m.tries) e,
        ap (λ (m : IgbReport). m.forced) e,
        ap (λ (m : IgbReport). m.free) e,
        w.values_are ∙ v,
      )

  -- what stands behind the first V values stays, whatever is answered
  pub setup_rest : drop g.vars after ≡ drop g.vars g.values
  setup_rest = go (setup_refusal g) refl
    where
      go : (o : Option Refusal) → setup_refusal g ≡ o → drop g.vars after ≡ drop g.vars g.values
      go none q = ap (drop g.vars) w.values_are ∙ (theorems.setup_writes g ((theorems.setup_acceptance g).0 q)).2
      go (some b) q = ap (drop g.vars) (setup_nothing b ((theorems.setup_refusals g b).0 q)).4

  module _ (a : Answered n) where
    taken : Accepted (setup_run g)
    taken = setup_answered.0 a

    call_number : n.answer ≡ run_number (setup_answer (setup_call g))
    call_number = ap (λ (m : IgbReport). m.answer) (accepted_numbers taken)

    values_are : take g.vars after ≡ setup_values g.vars (setup_call g)
    values_are = ap (take g.vars) w.values_are ∙ (theorems.setup_writes g taken).1

    -- with 0 the values are the bits of the first model of the formula in which every held literal is true
    pub setup_first : n.answer ≡ 0 → FirstSetup g.vars (clauses g.entries) g.held (take g.vars after)
    setup_first e = rw values_are (theorems.setup_model g (go (setup_call g) (sym call_number ∙ e)))
      where
        go : (c : Call) → run_number (setup_answer c) ≡ 0 → setup_answer c ≡ RunAnswer.Settled
        go (model m t) z = refl
        go (no_model t) z = absurd (omega (arith, z))
        go (stopped t) z = absurd (omega (arith, z))

    -- unless the budget stopped it, 20 is answered exactly if there is no such model
    pub setup_none : n.answer ≢ 21 → (n.answer ≡ 20) ↔ NoModel g.vars (with_held (clauses g.entries) g.held)
    setup_none ne =
        let exactly = theorems.setup_none g (λ e. ne (call_number ∙ ap run_number e)) in
        (λ e. exactly.0 (go (setup_call g) (sym call_number ∙ e)), λ m. call_number ∙ ap run_number (exactly.1 m))
      where
        go : (c : Call) → run_number (setup_answer c) ≡ 20 → setup_answer c ≡ RunAnswer.NoModel
        go (model m t) z = absurd (omega (arith, z))
        go (no_model t) z = refl
        go (stopped t) z = absurd (omega (arith, z))

    -- after 20 and 21 the values are zeros
    pub setup_zeros : n.answer ≢ 0 → take g.vars after ≡ replicate g.vars 0
    setup_zeros ne = values_are ∙ go (setup_call g) (λ z. ne (call_number ∙ z))
      where
        go : (c : Call) → run_number (setup_answer c) ≢ 0 → setup_values g.vars c ≡ replicate g.vars 0
        go (model m t) z = absurd (z refl)
        go (no_model t) z = refl
        go (stopped t) z = refl

    -- one call, tries within the budget, all of it where the call was stopped, and nothing forced or free
    pub setup_counts : (n.calls ≡ 1) × (n.tries ≤ g.budget) × (n.answer ≡ 21 → n.tries ≡ g.budget) × (n.forced ≡ 0) × (n.free ≡ 0)
    setup_counts =
        let e = accepted_numbers taken in
        let tries_are : n.tries ≡ tries_of (setup_call g) = ap (λ (m : IgbReport). m.tries) e in
        let (most, all) = theorems.setup_tries g in (
          ap (λ (m : IgbReport). m.calls) e,
          rw tries_are most,
          λ z. tries_are ∙ all (go (setup_call g) (sym call_number ∙ z)),
          ap (λ (m : IgbReport). m.forced) e,
          ap (λ (m : IgbReport). m.free) e,
        )
      where
        go : (c : Call) → run_number (setup_answer c) ≡ 21 → setup_answer c ≡ RunAnswer.Stopped
        go (model m t) z = absurd (omega (arith, z))
        go (no_model t) z = absurd (omega (arith, z))
        go (stopped t) z = refl
