-- What a caller of `why` has by its contract, in terms of models and of both buffers.
--
--   answered, refused_exactly     what is accepted, and each refusal exactly when its rule says
--   nothing_written   what is refused returns zero counts and writes nothing
--   forces, needed, forced     answer 0
--   no_model, not_forced, written     answers 20 and 22
--   calls_most, tries_most     calls and tries
--   rest_stays        what stands behind the marks and the values stays
--   one_answer        no second result and buffers meet the contract
--
-- Assumes nothing.
use mathlib.Core.Path.{◌≡◌, refl, sym, ◌∙◌, ap}
use mathlib.Core.Logic.{◌≢◌, ◌⊎◌, inl, inr, ◌↔◌}
use mathlib.Core.Bool.{Bool, true, false}
use mathlib.Core.Option.{Option, none, some}
use mathlib.Core.List.{List, map}
use Prim.Native.Nat.{ℕ, ◌+◌, ◌≤◌}
use native.Mathlib.Omega.{arith}
use lib.ListN.{length, get_or, set, take, drop}
use lib.Seq.{take_at, drop_at}
use Rattle.rules.specs.declared.Refusal.{Refusal}
use Rattle.rules.specs.declared.WhyAnswer.{WhyAnswer}
use Rattle.rules.specs.declared.WhyReport.{WhyReport}
use Rattle.rules.specs.Numbers.{max_clauses}
use Rattle.rules.specs.Meaning.{Values, var_of, clauses, bit_of}
use Rattle.rules.specs.Models.{NoModel, Forced}
use Rattle.rules.specs.Why.{WhyGiven, WhyAccepted, WhyRefuses, Explains, FalseModel, marked, question_of, why, why_refusal}
use Rattle.rules.proofs.ClauseLaws.{length-clauses}
use Rattle.rules.proofs.WhyTheorems as theorems
use Rattle.rules.proofs.ListLaws.{never}
use Rattle.rules.proofs.WhyRefused.{why_refused, why_accepted, refused_nothing, accepted_all, explains_unique}

-- 0, 20, 21 and 22
abbrev pub is_answered : WhyAnswer → Bool
is_answered WhyAnswer.Kept = true
is_answered WhyAnswer.NoModel = true
is_answered WhyAnswer.Stopped = true
is_answered WhyAnswer.NotForced = true
is_answered (WhyAnswer.Refused a) = false

module _ {g : WhyGiven} {r : WhyReport} {marks values : List ℕ} (w : Explains g r marks values) where
  -- what is refused returns zero counts and writes nothing
  pub nothing_written : (a : Refusal) → WhyRefuses g a
      → (r ≡ record { answer = WhyAnswer.Refused a; calls = 0; tries = 0 }) × (marks ≡ g.marks) × (values ≡ g.values)
  nothing_written a h = let (e, m, v) = refused_nothing g a h in (w.result_is ∙ e, w.marks_are ∙ m, w.values_are ∙ v)

  refused_answer : (a : Refusal) → WhyRefuses g a → r.answer ≡ WhyAnswer.Refused a
  refused_answer a h = ap (λ (q : WhyReport). q.answer) (nothing_written a h).0

  accepted_answered : WhyAccepted g → is_answered r.answer ≡ true
  accepted_answered h =
      ap (λ (q : WhyReport). is_answered q.answer) (w.result_is ∙ (accepted_all g h).0) ∙ go (theorems.why_answer_lem (question_of g) h.literal_up_to.some)
    where
      go : {a : WhyAnswer} → (a ≡ WhyAnswer.Kept) ⊎ ((a ≡ WhyAnswer.NoModel) ⊎ ((a ≡ WhyAnswer.Stopped) ⊎ (a ≡ WhyAnswer.NotForced)))
          → is_answered a ≡ true
      go (inl e) = ap is_answered e
      go (inr (inl e)) = ap is_answered e
      go (inr (inr (inl e))) = ap is_answered e
      go (inr (inr (inr e))) = ap is_answered e

  -- 0, 20, 21 and 22 are answered exactly if no rule refuses
  pub answered : (is_answered r.answer ≡ true) ↔ WhyAccepted g
  answered = (λ t. go (why_refusal g) refl t, accepted_answered)
    where
      go : (o : Option Refusal) → why_refusal g ≡ o → is_answered r.answer ≡ true → WhyAccepted g
      go none q t = (why_accepted g).0 q
      go (some b) q t = absurd (never t (ap is_answered (refused_answer b ((why_refused g b).0 q))))

  -- each refusal exactly when its rule says so
  pub refused_exactly : (a : Refusal) → (r.answer ≡ WhyAnswer.Refused a) ↔ WhyRefuses g a
  refused_exactly a = (λ e. go (why_refusal g) refl e, refused_answer a)
    where
      go : (o : Option Refusal) → why_refusal g ≡ o → r.answer ≡ WhyAnswer.Refused a → WhyRefuses g a
      go none q e = absurd (never (accepted_answered ((why_accepted g).0 q)) (ap is_answered e))
      go (some b) q e =
          let h = (why_refused g b).0 q in
          let same : WhyAnswer.Refused b ≡ WhyAnswer.Refused a = sym (refused_answer b h) ∙ e in
          let inner : b ≡ a = cc in
          rw (← inner) h

  -- no second result and buffers meet the contract
  pub one_answer : {r' : WhyReport} {marks' values' : List ℕ} → Explains g r' marks' values' → (r ≡ r') × (marks ≡ marks') × (values ≡ values')
  one_answer v = explains_unique w v

  module _ (h : WhyAccepted g) where
    named : 1 ≤ var_of g.literal
    named = h.literal_up_to.some

    returned : r ≡ record { answer = (why (question_of g)).answer; calls = (why (question_of g)).calls; tries = (why (question_of g)).tries }
    returned = w.result_is ∙ (accepted_all g h).0

    answer_is : r.answer ≡ (why (question_of g)).answer
    answer_is = ap (λ (q : WhyReport). q.answer) returned

    length_marks : length (why (question_of g)).marks ≡ max_clauses
    length_marks = theorems.why_length_marks (question_of g) (omega (arith, length-clauses g.entries, h.list.listed.clauses_fit))

    length_values : length (why (question_of g)).values ≡ g.vars
    length_values = theorems.why_length_values (question_of g) named

    marks_front : take max_clauses marks ≡ (why (question_of g)).marks
    marks_front =
        ap (take max_clauses) (w.marks_are ∙ (accepted_all g h).1) ∙
        take_at (why (question_of g)).marks (drop max_clauses g.marks) max_clauses length_marks

    values_front : take g.vars values ≡ (why (question_of g)).values
    values_front =
        ap (take g.vars) (w.values_are ∙ (accepted_all g h).2) ∙
        take_at (why (question_of g)).values (drop g.vars g.values) g.vars length_values

    -- what stands behind the marks and the values stays
    pub rest_stays : (drop max_clauses marks ≡ drop max_clauses g.marks) × (drop g.vars values ≡ drop g.vars g.values)
    rest_stays = (
      ap (drop max_clauses) (w.marks_are ∙ (accepted_all g h).1) ∙ drop_at (why (question_of g)).marks (drop max_clauses g.marks) max_clauses length_marks,
      ap (drop g.vars) (w.values_are ∙ (accepted_all g h).2) ∙ drop_at (why (question_of g)).values (drop g.vars g.values) g.vars length_values,
    )

    -- 0: no assignment makes the marked clauses true with the literal false,
    pub forces : r.answer ≡ WhyAnswer.Kept → (m : Values)
        → FalseModel g.vars (marked (take max_clauses marks) (clauses g.entries)) g.literal m → ⊥
    forces e = rw marks_front (theorems.why_forces (question_of g) named (sym answer_is ∙ e))

    -- without any one of them there is one,
    pub needed : r.answer ≡ WhyAnswer.Kept → (i : ℕ) → get_or (take max_clauses marks) i 0 ≢ 0
        → (m : Values) × FalseModel g.vars (marked (set (take max_clauses marks) i 0) (clauses g.entries)) g.literal m
    needed e = rw marks_front (theorems.why_needed (question_of g) named (sym answer_is ∙ e))

    -- and the literal is in all models of the formula, which has one
    pub forced : r.answer ≡ WhyAnswer.Kept → Forced g.vars (clauses g.entries) g.literal
    forced e = theorems.why_forced (question_of g) named (sym answer_is ∙ e)

    -- unless stopped, 20 exactly if there is no model
    pub no_model : r.answer ≢ WhyAnswer.Stopped → (r.answer ≡ WhyAnswer.NoModel) ↔ NoModel g.vars (clauses g.entries)
    no_model = rw answer_is (theorems.why_no_model (question_of g) named)

    -- and 22 exactly if a model has the literal false,
    pub not_forced : r.answer ≢ WhyAnswer.Stopped
        → (r.answer ≡ WhyAnswer.NotForced) ↔ ((m : Values) × FalseModel g.vars (clauses g.entries) g.literal m)
    not_forced = rw answer_is (theorems.why_not_forced (question_of g) named)

    -- which is written
    pub written : r.answer ≡ WhyAnswer.NotForced
        → (m : Values) × FalseModel g.vars (clauses g.entries) g.literal m × (take g.vars values ≡ map bit_of m)
    written e = rw values_front (theorems.why_values (question_of g) named (sym answer_is ∙ e))

    -- calls are at most C + 2
    pub calls_most : r.calls ≤ length (clauses g.entries) + 2
    calls_most = rw returned (theorems.why_calls (question_of g))

    -- tries are within the budget, and all of it is spent where the calls were stopped
    pub tries_most : (r.tries ≤ g.budget) × (r.answer ≡ WhyAnswer.Stopped → r.tries ≡ g.budget)
    tries_most = rw returned (theorems.why_tries (question_of g))
