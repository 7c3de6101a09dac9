-- The laws of src/taken.rt: whether a number is at fault by what is due, and where it leads.
--
--   var_of_value       the variable of a number
--   faulty_minus, faulty_count, faulty_literal, faulty_claims, faulty_zero, faulty_claim     whether it is at fault
--   number_sign       a token's number is not 0 with a minus
--   taken_stop, taken_fault, taken_number     the answer, or the number
--   lead_then         a number leads to a part, from where a step leads on
--
-- Assumes nothing.
use mathlib.Core.Path.{◌≡◌, refl, sym, ◌∙◌, ap}
use mathlib.Core.Logic.{◌≢◌}
use mathlib.Core.Bool.{Bool, true, false, not, ◌||◌}
use mathlib.Core.List.{List}
use Prim.Native.Nat.{ℕ, zero, suc}
use lib.Dec.{eqb, ltb}
use lib.IntN.{ℤ, pos}
use borrow.Author.Tests.{eq-eqb, ne_eqb}
use Rattle.rules.specs.declared.ClaimsAnswer.{ClaimsAnswer}
use Rattle.rules.specs.Lists.{eqz}
use Rattle.rules.specs.Meaning.{Clause, var_of}
use Rattle.texts.specs.ClaimsReading.{Part, is_negative}
use Rattle.std.specs.Prelude.{Ok, Err}
use Rattle.reader.specs.declared.next.Spot.{Spot}
use Rattle.reader.specs.declared.token.Entry.{Entry}
use Rattle.reader.specs.Words.{signed_value, value_of}
use Rattle.claims.specs.declared.taken.Due.{Due}
use Rattle.claims.specs.Steps.{Step, judge_from, Leads, on, stop, SignFits, NumberDue, no_number, number, is_faulty, Taken, stops, takes}
use Rattle.claims.proofs.StepLaws.{fits_on, fault_stop, value_minus, value_plain}

-- ---- a number

pub var_of_value : (e : Entry) → var_of (value_of e) ≡ e.number
var_of_value e = go e.minus e.number
  where
    go : (b : Bool) (n : ℕ) → var_of (signed_value b n) ≡ n
    go true zero = refl
    go true (suc n) = refl
    go false n = refl

module _ {due : Due} (e : Entry) (f : SignFits e) where
  pub faulty_minus : (vars : ℕ) → due ≡ Due.Count vars → e.minus ≡ true → true ≡ is_faulty due (value_of e)
  faulty_minus vars d m =
      sym (ap (λ (x : Due). is_faulty x (value_of e)) d ∙ ap (λ (l : ℤ). not (eqz l (pos vars))) (value_minus e m (f.some m)))

  pub faulty_count : (vars : ℕ) → due ≡ Due.Count vars → e.minus ≡ false → not (eqb e.number vars) ≡ is_faulty due (value_of e)
  faulty_count vars d m =
      sym (ap (λ (x : Due). is_faulty x (value_of e)) d ∙ ap (λ (l : ℤ). not (eqz l (pos vars))) (value_plain e m))

  pub faulty_literal : (v : ℕ) → due ≡ Due.Literal v → not (eqb e.number v) ≡ is_faulty due (value_of e)
  faulty_literal v d = sym (ap (λ (x : Due). is_faulty x (value_of e)) d ∙ ap (λ (n : ℕ). not (eqb n v)) (var_of_value e))

  pub faulty_claims : due ≡ Due.Claims → e.minus ≡ is_faulty due (value_of e)
  faulty_claims d = sym (ap (λ (x : Due). is_faulty x (value_of e)) d ∙ go e.minus refl)
    where
      go : (b : Bool) → e.minus ≡ b → is_negative (value_of e) ≡ e.minus
      go true m = ap is_negative (value_minus e m (f.some m)) ∙ sym m
      go false m = ap is_negative (value_plain e m) ∙ sym m

  claim_is : (vars : ℕ) → due ≡ Due.Claim vars → is_faulty due (value_of e) ≡ (eqb e.number 0 || ltb vars e.number)
  claim_is vars d = ap (λ (x : Due). is_faulty x (value_of e)) d ∙ ap (λ (n : ℕ). eqb n 0 || ltb vars n) (var_of_value e)

  pub faulty_zero : (vars : ℕ) → due ≡ Due.Claim vars → e.number ≡ 0 → true ≡ is_faulty due (value_of e)
  faulty_zero vars d h = sym (claim_is vars d ∙ rw (eq-eqb e.number 0 h))

  pub faulty_claim : (vars : ℕ) → due ≡ Due.Claim vars → e.number ≢ 0 → ltb vars e.number ≡ is_faulty due (value_of e)
  faulty_claim vars d h = sym (claim_is vars d ∙ rw (ne_eqb e.number 0 h))

-- ---- the answer, or the number

module _ {text : List ℕ} {at : ℕ} (due : Due) where
  pub taken_stop : {a : ClaimsAnswer} → NumberDue text at (Err a) → Taken text at due (Err a)
  taken_stop (no_number h) = stops (λ vars F p d. h vars F p d.unfinished)

  module _ (s : Spot) where
    pub taken_fault : NumberDue text at (Ok s) → is_faulty due (value_of s.entry) ≡ true → Taken text at due (Err (ClaimsAnswer.Rejected s.from))
    taken_fault (number n w m) h = stops (λ vars F p d. fault_stop vars F p (value_of s.entry) n w (d.fault (value_of s.entry) ∙ h))

    pub taken_number : NumberDue text at (Ok s) → is_faulty due (value_of s.entry) ≡ false → Taken text at due (Ok s)
    taken_number (number n w m) h = takes (λ vars F p d. fits_on vars F p (value_of s.entry) n w (d.fault (value_of s.entry) ∙ h)) h m

pub number_sign : {text : List ℕ} {at : ℕ} {s : Spot} → NumberDue text at (Ok s) → SignFits s.entry
number_sign (number n w m) = m

-- ---- one behind the other

pub lead_then : {vars : ℕ} {F : List Clause} {text : List ℕ} {p q s : Part} {at to : ℕ} {r : Step}
    → judge_from vars F text p at ≡ judge_from vars F text q to → Leads vars F text q to s r → Leads vars F text p at s r
lead_then e (on f) = on (e ∙ f)
lead_then e (stop f) = stop (e ∙ f)
