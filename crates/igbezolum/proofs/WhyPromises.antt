-- What a caller of `igb_why` has by its contract, in C's numbers.
--
--   explains_back             the numbers lose nothing: the answer that they stand for keeps the promise of `reason::why`
--   explains_in_unique        no second result and buffers meet the contract
--   why_answered              0, 20, 21 or 22 exactly if no rule refuses
--   why_refused_exactly       each refusal number and place exactly when its rule says
--   why_nothing_written       what is refused returns zero counts and writes nothing
--   why_rest_stays            what stands behind 1,024 marks and V values stays
--   why_forces why_needed why_forced     after 0
--   why_no_model why_not_forced why_written     20 and 22
--   why_calls_most why_tries_most     calls and tries
--
-- Assumes nothing.
use mathlib.Core.Path.{◌≡◌, refl, sym, ◌∙◌, ap}
use mathlib.Core.Bool.{true, cond}
use mathlib.Core.Logic.{◌≢◌, ◌⊎◌, inl, inr, ◌↔◌}
use mathlib.Core.List.{List, map}
use Prim.Native.Nat.{ℕ, ◌+◌, ◌≤◌}
use lib.Dec.{eqb}
use lib.ListN.{length, get_or, set, take, drop}
use Rattle.rules.specs.declared.Refusal.{Refusal}
use Rattle.rules.specs.declared.WhyAnswer.{WhyAnswer}
use Rattle.rules.specs.declared.WhyReport.{WhyReport}
use Rattle.rules.specs.Numbers.{max_clauses, refusal_number, refusal_place}
use Rattle.rules.specs.Meaning.{Values, clauses, bit_of}
use Rattle.rules.specs.Models.{NoModel, Forced}
use Rattle.rules.specs.Why.{WhyGiven, why_number, why_place, why_report_of, Explains, WhyAccepted, WhyRefuses, FalseModel, marked}
use Rattle.rules.proofs.ListLaws.{never}
use Rattle.reason.proofs.Promises as reason
use Rattle.igbezolum.specs.declared.why.IgbWhyReport.{IgbWhyReport}
use Rattle.igbezolum.specs.WhyLinked.{why_numbers, ExplainsIn}
use Rattle.igbezolum.proofs.Promises.{refusal_of_number}

-- ---- the answer of a number and a place

abbrev pub why_answer : ℕ → ℕ → WhyAnswer
why_answer n at =
    cond (eqb n 0) WhyAnswer.Kept
    (cond (eqb n 20) WhyAnswer.NoModel
    (cond (eqb n 21) WhyAnswer.Stopped
    (cond (eqb n 22) WhyAnswer.NotForced
    (WhyAnswer.Refused (refusal_of_number n at)))))

why_answer_numbers : (a : WhyAnswer) → why_answer (why_number a) (why_place a) ≡ a
why_answer_numbers WhyAnswer.Kept = refl
why_answer_numbers WhyAnswer.NoModel = refl
why_answer_numbers WhyAnswer.Stopped = refl
why_answer_numbers WhyAnswer.NotForced = refl
why_answer_numbers (WhyAnswer.Refused Refusal.ShortBuffer) = refl
why_answer_numbers (WhyAnswer.Refused Refusal.BadLimits) = refl
why_answer_numbers (WhyAnswer.Refused (Refusal.BadList at)) = refl
why_answer_numbers (WhyAnswer.Refused (Refusal.EntryOverVars at)) = refl
why_answer_numbers (WhyAnswer.Refused (Refusal.BadLiteral at)) = refl
why_answer_numbers (WhyAnswer.Refused Refusal.NotFree) = refl
why_answer_numbers (WhyAnswer.Refused Refusal.ManyHeld) = refl

abbrev pub why_report_from : IgbWhyReport → WhyReport
why_report_from n = record { answer = why_answer n.answer n.place; calls = n.calls; tries = n.tries }

report_back : (r : WhyReport) → why_report_from (why_numbers r) ≡ r
report_back r = ap (λ (a : WhyAnswer). record { answer = a; calls = r.calls; tries = r.tries }) (why_answer_numbers r.answer)

-- the numbers of answers that are no refusals
abbrev pub Answer : ℕ → Type 0
Answer n = (n ≡ 0) ⊎ ((n ≡ 20) ⊎ ((n ≡ 21) ⊎ (n ≡ 22)))

module _ {g : WhyGiven} {n : IgbWhyReport} {marks values : List ℕ} (w : ExplainsIn g n marks values) where
  pub explains_back : Explains g (why_report_from n) marks values
  explains_back =
      record {
        result_is = ap why_report_from w.result_is ∙ report_back (why_report_of g);
        marks_are = w.marks_are;
        values_are = w.values_are;
      }

  pub explains_in_unique : {m : IgbWhyReport} {ks vs : List ℕ} → ExplainsIn g m ks vs → (n ≡ m) × (marks ≡ ks) × (values ≡ vs)
  explains_in_unique v = (w.result_is ∙ sym v.result_is, w.marks_are ∙ sym v.marks_are, w.values_are ∙ sym v.values_are)

  -- the answer that a number stands for, and back
  abbrev said : WhyAnswer
  said = (why_report_from n).answer

  number_is : n.answer ≡ why_number said
  number_is =
      ap (λ (m : IgbWhyReport). m.answer) w.result_is ∙ ap (λ (r : WhyReport). why_number r.answer) (sym explains_back.result_is)

  place_is : n.place ≡ why_place said
  place_is =
      ap (λ (m : IgbWhyReport). m.place) w.result_is ∙ ap (λ (r : WhyReport). why_place r.answer) (sym explains_back.result_is)

  of_number : {k : ℕ} → n.answer ≡ k → said ≡ why_answer k n.place
  of_number e = ap (λ (k : ℕ). why_answer k n.place) e

  -- 0, 20, 21 or 22 is answered exactly if no rule refuses
  pub why_answered : Answer n.answer ↔ WhyAccepted g
  why_answered = (λ a. (reason.answered explains_back).0 (go a), λ h. back said number_is ((reason.answered explains_back).1 h))
    where
      go : Answer n.answer → reason.is_answered said ≡ true
      go (inl e) = ap reason.is_answered (of_number e)
      go (inr (inl e)) = ap reason.is_answered (of_number e)
      go (inr (inr (inl e))) = ap reason.is_answered (of_number e)
      go (inr (inr (inr e))) = ap reason.is_answered (of_number e)

      back : (a : WhyAnswer) → n.answer ≡ why_number a → reason.is_answered a ≡ true → Answer n.answer
      back WhyAnswer.Kept e t = inl e
      back WhyAnswer.NoModel e t = inr (inl e)
      back WhyAnswer.Stopped e t = inr (inr (inl e))
      back WhyAnswer.NotForced e t = inr (inr (inr e))
      back (WhyAnswer.Refused a) e t = absurd (never t refl)

  -- each refusal's number and place exactly when its rule says so
  pub why_refused_exactly : (a : Refusal) → ((n.answer ≡ refusal_number a) × (n.place ≡ refusal_place a)) ↔ WhyRefuses g a
  why_refused_exactly a = (
    λ p. (reason.refused_exactly explains_back a).0
        (ap (λ (k : ℕ). why_answer k n.place) p.0 ∙ ap (why_answer (refusal_number a)) p.1 ∙ why_answer_numbers (WhyAnswer.Refused a)),
    λ h. let e = (reason.refused_exactly explains_back a).1 h in (number_is ∙ ap why_number e, place_is ∙ ap why_place e),
  )

  -- what is refused returns zero counts and writes nothing
  pub why_nothing_written : (a : Refusal) → WhyRefuses g a → (n.calls ≡ 0) × (n.tries ≡ 0) × (marks ≡ g.marks) × (values ≡ g.values)
  why_nothing_written a h =
      let (e, m, v) = reason.nothing_written explains_back a h in
      (ap (λ (r : WhyReport). r.calls) e, ap (λ (r : WhyReport). r.tries) e, m, v)

  module _ (h : WhyAccepted g) where
    -- what stands behind 1,024 marks and V values stays
    pub why_rest_stays : (drop max_clauses marks ≡ drop max_clauses g.marks) × (drop g.vars values ≡ drop g.vars g.values)
    why_rest_stays = reason.rest_stays explains_back h

    -- 0: no assignment makes the marked clauses true with the literal false,
    pub why_forces : n.answer ≡ 0 → (m : Values) → FalseModel g.vars (marked (take max_clauses marks) (clauses g.entries)) g.literal m → ⊥
    why_forces e = reason.forces explains_back h (of_number e)

    -- without any one of them there is one,
    pub why_needed : n.answer ≡ 0 → (i : ℕ) → get_or (take max_clauses marks) i 0 ≢ 0
        → (m : Values) × FalseModel g.vars (marked (set (take max_clauses marks) i 0) (clauses g.entries)) g.literal m
    why_needed e = reason.needed explains_back h (of_number e)

    -- and the literal is in all models of the formula, which has one
    pub why_forced : n.answer ≡ 0 → Forced g.vars (clauses g.entries) g.literal
    why_forced e = reason.forced explains_back h (of_number e)

    not_stopped : n.answer ≢ 21 → said ≢ WhyAnswer.Stopped
    not_stopped k e = k (number_is ∙ ap why_number e)

    -- unless stopped, 20 exactly if there is no model
    pub why_no_model : n.answer ≢ 21 → (n.answer ≡ 20) ↔ NoModel g.vars (clauses g.entries)
    why_no_model k = (
      λ e. (reason.no_model explains_back h (not_stopped k)).0 (of_number e),
      λ x. number_is ∙ ap why_number ((reason.no_model explains_back h (not_stopped k)).1 x),
    )

    -- and 22 exactly if a model has the literal false,
    pub why_not_forced : n.answer ≢ 21 → (n.answer ≡ 22) ↔ ((m : Values) × FalseModel g.vars (clauses g.entries) g.literal m)
    why_not_forced k = (
      λ e. (reason.not_forced explains_back h (not_stopped k)).0 (of_number e),
      λ x. number_is ∙ ap why_number ((reason.not_forced explains_back h (not_stopped k)).1 x),
    )

    -- which is written
    pub why_written : n.answer ≡ 22 → (m : Values) × FalseModel g.vars (clauses g.entries) g.literal m × (take g.vars values ≡ map bit_of m)
    why_written e = reason.written explains_back h (of_number e)

    -- calls are at most C + 2
    pub why_calls_most : n.calls ≤ length (clauses g.entries) + 2
    why_calls_most = reason.calls_most explains_back h

    -- tries are within the budget, and all of it is spent where the calls were stopped
    pub why_tries_most : (n.tries ≤ g.budget) × (n.answer ≡ 21 → n.tries ≡ g.budget)
    why_tries_most = let (t, s) = reason.tries_most explains_back h in (t, λ e. s (of_number e))
