-- From the promise of `reason::why` to that in numbers.
--
--   why_fit           the place fits the field of the struct
--   explains_in       what is returned in numbers, with the buffers as they were left
--
-- Assumes nothing.
use mathlib.Core.Path.{◌≡◌, refl, ◌∙◌, ap}
use mathlib.Core.Logic.{◌⊎◌, inl, inr}
use mathlib.Core.List.{List}
use mathlib.Core.Option.{Option, none, some}
use Prim.Native.Nat.{ℕ, ◌≤◌}
use native.Mathlib.Omega.{arith}
use Rattle.rules.specs.declared.Refusal.{Refusal}
use Rattle.rules.specs.declared.WhyAnswer.{WhyAnswer}
use Rattle.rules.specs.declared.WhyReport.{WhyReport}
use Rattle.rules.specs.Numbers.{max_entries, refusal_place}
use Rattle.rules.specs.Why.{WhyGiven, why_place, question_of, why_refusal, why_report_if, why_report_of, Explains}
use Rattle.rules.specs.Why.{WhyRefuses, many_vars, short_buffer, bad_list, bad_literal}
use Rattle.rules.proofs.WhyTheorems.{why_answer_lem}
use Rattle.rules.proofs.WhyRefused.{why_refused, why_accepted}
use Rattle.igbezolum.specs.declared.why.IgbWhyReport.{IgbWhyReport}
use Rattle.igbezolum.specs.WhyLinked.{why_numbers, ExplainsIn}
use Rattle.igbezolum.proofs.FitLaws.{refused_place}

why_refused_place : {g : WhyGiven} {a : Refusal} → WhyRefuses g a → refusal_place a ≤ max_entries
why_refused_place (many_vars h) = omega arith
why_refused_place (short_buffer v h) = omega arith
why_refused_place (bad_list w a h) = refused_place h
why_refused_place (bad_literal w l h) = omega arith

why_ended_place : {a : WhyAnswer}
    → (a ≡ WhyAnswer.Kept) ⊎ ((a ≡ WhyAnswer.NoModel) ⊎ ((a ≡ WhyAnswer.Stopped) ⊎ (a ≡ WhyAnswer.NotForced))) → why_place a ≤ max_entries
why_ended_place (inl h) = rw h (omega arith)
why_ended_place (inr (inl h)) = rw h (omega arith)
why_ended_place (inr (inr (inl h))) = rw h (omega arith)
why_ended_place (inr (inr (inr h))) = rw h (omega arith)

report_is : {g : WhyGiven} {r : WhyReport} {marks values : List ℕ} → Explains g r marks values → r ≡ why_report_if (why_refusal g) (question_of g)
unfolding why_report_of
report_is d = d.result_is

pub why_fit : {g : WhyGiven} {r : WhyReport} {marks values : List ℕ} → Explains g r marks values → why_place r.answer ≤ max_entries
why_fit {g = g} {r = r} d = go (why_refusal g) refl (report_is d)
  where
    go : (o : Option Refusal) → why_refusal g ≡ o → r ≡ why_report_if o (question_of g) → why_place r.answer ≤ max_entries
    go (some a) q e = rw e (why_refused_place ((why_refused g a).0 q))
    go none q e = rw e (why_ended_place (why_answer_lem (question_of g) ((why_accepted g).0 q).literal_up_to.some))

pub explains_in : {g : WhyGiven} {r : WhyReport} {marks values : List ℕ} {n : IgbWhyReport}
    → Explains g r marks values → n ≡ why_numbers r → ExplainsIn g n marks values
explains_in d e = record { result_is = e ∙ ap why_numbers d.result_is; marks_are = d.marks_are; values_are = d.values_are }
