-- The reading and the rules of refusal agree (docs/RULES.md, the table of "What comes back"): a text gets a number exactly when the rule
-- of that number in specs/Refusals says so. Read off the verdict (VerdictLaws).
--
--   refusal_sound, refusal_complete     the theorem
--   accepted_never_answer         no text is refused with "accepted"
--
-- Assumes nothing.
use mathlib.Core.Path.{◌≡◌}
use mathlib.Core.List.{List}
use Prim.Native.Nat.{ℕ}
use Rattle.rules.specs.declared.ReadAnswer.{ReadAnswer}
use Rattle.texts.specs.Reading.{refused, judge}
use Rattle.texts.specs.Refusals.{Refuses}
use Rattle.texts.proofs.VerdictLaws.{Verdict, refuses, judge_of_verdict, verdict_of_judge}

pub refusal_sound : (room : ℕ) (text : List ℕ) {a : ReadAnswer} → judge room text ≡ refused a → Refuses room text a
refusal_sound room text e = go (verdict_of_judge room text e)
  where
    go : {a : ReadAnswer} → Verdict room text (refused a) → Refuses room text a
    go (refuses r) = r

pub refusal_complete : (room : ℕ) (text : List ℕ) {a : ReadAnswer} → Refuses room text a → judge room text ≡ refused a
refusal_complete room text r = judge_of_verdict (refuses r)

pub accepted_never_answer : (room : ℕ) (text : List ℕ) → judge room text ≡ refused ReadAnswer.Accepted → ⊥
accepted_never_answer room text e = go (refusal_sound room text e)
  where
    go : Refuses room text ReadAnswer.Accepted → ⊥
    go r = elim r [ ]
