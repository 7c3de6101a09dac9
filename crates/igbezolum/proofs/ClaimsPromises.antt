-- What a caller of `igb_check_claims` has by its contract, in C's numbers.
--
--   checks_in_unique              no second result meets the contract
--   verdict_accepted              0 exactly if the formula is taken and the text says a model and claims whose trees hold
--   verdict_forced                then every claimed literal is forced
--   verdict_refused_exactly       each refusal and rejection has its number and its place exactly
--
-- Assumes nothing.
use mathlib.Core.Path.{◌≡◌, refl, sym, ◌∙◌, ap}
use mathlib.Core.Logic.{◌≢◌, ◌⊎◌, inl, inr, ◌↔◌}
use Prim.Native.Nat.{ℕ, ◌≤◌}
use native.Mathlib.Omega.{arith}
use Rattle.rules.specs.declared.Refusal.{Refusal}
use Rattle.rules.specs.declared.ClaimsAnswer.{ClaimsAnswer}
use Rattle.rules.specs.Lists.{In}
use Rattle.rules.specs.Numbers.{refusal_number, claims_number, claims_place}
use Rattle.rules.specs.Meaning.{clauses}
use Rattle.rules.specs.Models.{Forced}
use Rattle.texts.specs.Claims.{Claim, ClaimsFile}
use Rattle.texts.specs.ClaimsReading.{ClaimsGiven, claims_answer}
use Rattle.texts.specs.ClaimsRefusals.{FormulaTaken, ClaimsRefuses}
use Rattle.texts.proofs.Theorems as text-theorems
use Rattle.igbezolum.specs.declared.verdict.IgbVerdict.{IgbVerdict}
use Rattle.igbezolum.specs.ClaimsLinked.{ChecksIn}
use Rattle.igbezolum.proofs.ClosePromises.{refusal_same}

pub checks_in_unique : {g : ClaimsGiven} {n m : IgbVerdict} → ChecksIn g n → ChecksIn g m → n ≡ m
checks_in_unique d e = d.result_is ∙ sym e.result_is

-- ---- the numbers lose nothing but how many claims are accepted

-- the numbers of a list's refusals are 1 and 10 to 15
refusal_numbers : (a : Refusal) → (refusal_number a ≡ 1) ⊎ ((10 ≤ refusal_number a) × (refusal_number a ≤ 15))
refusal_numbers Refusal.ShortBuffer = inl refl
refusal_numbers Refusal.BadLimits = inr (omega arith, omega arith)
refusal_numbers (Refusal.BadList at) = inr (omega arith, omega arith)
refusal_numbers (Refusal.EntryOverVars at) = inr (omega arith, omega arith)
refusal_numbers (Refusal.BadLiteral at) = inr (omega arith, omega arith)
refusal_numbers Refusal.NotFree = inr (omega arith, omega arith)
refusal_numbers Refusal.ManyHeld = inr (omega arith, omega arith)

-- none of them is that of a file: 0, 2, 5 or 17
no_refusal : (a : Refusal) {k : ℕ} → k ≡ refusal_number a → (k ≡ 0) ⊎ ((k ≡ 2) ⊎ ((k ≡ 5) ⊎ (k ≡ 17))) → ⊥
no_refusal a {k} e o = go (refusal_numbers a) o
  where
    go : (refusal_number a ≡ 1) ⊎ ((10 ≤ refusal_number a) × (refusal_number a ≤ 15)) → (k ≡ 0) ⊎ ((k ≡ 2) ⊎ ((k ≡ 5) ⊎ (k ≡ 17))) → ⊥
    go (inl x) (inl z) = omega (arith, e, x, z)
    go (inl x) (inr (inl z)) = omega (arith, e, x, z)
    go (inl x) (inr (inr (inl z))) = omega (arith, e, x, z)
    go (inl x) (inr (inr (inr z))) = omega (arith, e, x, z)
    go (inr (x, y)) (inl z) = omega (arith, e, x, z)
    go (inr (x, y)) (inr (inl z)) = omega (arith, e, x, z)
    go (inr (x, y)) (inr (inr (inl z))) = omega (arith, e, x, z)
    go (inr (x, y)) (inr (inr (inr z))) = omega (arith, e, y, z)

accepted_of_number : (a : ClaimsAnswer) → claims_number a ≡ 0 → (k : ℕ) × (a ≡ ClaimsAnswer.Accepted k)
accepted_of_number (ClaimsAnswer.Accepted k) e = (k, refl)
accepted_of_number ClaimsAnswer.LongText e = absurd (omega arith)
accepted_of_number (ClaimsAnswer.BadToken at) e = absurd (omega arith)
accepted_of_number (ClaimsAnswer.Rejected at) e = absurd (omega arith)
accepted_of_number (ClaimsAnswer.Refused a) e = absurd (no_refusal a (sym e) (inl refl))

same_answer : (a b : ClaimsAnswer) → ((k : ℕ) → b ≢ ClaimsAnswer.Accepted k) → claims_number a ≡ claims_number b → claims_place a ≡ claims_place b → a ≡ b
same_answer a (ClaimsAnswer.Accepted k) ne e f = absurd (ne k refl)
same_answer (ClaimsAnswer.Accepted k) ClaimsAnswer.LongText ne e f = absurd (omega (arith, e))
same_answer (ClaimsAnswer.Accepted k) (ClaimsAnswer.BadToken at) ne e f = absurd (omega (arith, e))
same_answer (ClaimsAnswer.Accepted k) (ClaimsAnswer.Rejected at) ne e f = absurd (omega (arith, e))
same_answer (ClaimsAnswer.Accepted k) (ClaimsAnswer.Refused b) ne e f = absurd (no_refusal b e (inl refl))
same_answer ClaimsAnswer.LongText ClaimsAnswer.LongText ne e f = refl
same_answer ClaimsAnswer.LongText (ClaimsAnswer.BadToken at) ne e f = absurd (omega (arith, e))
same_answer ClaimsAnswer.LongText (ClaimsAnswer.Rejected at) ne e f = absurd (omega (arith, e))
same_answer ClaimsAnswer.LongText (ClaimsAnswer.Refused b) ne e f = absurd (no_refusal b e (inr (inl refl)))
same_answer (ClaimsAnswer.BadToken from) ClaimsAnswer.LongText ne e f = absurd (omega (arith, e))
same_answer (ClaimsAnswer.BadToken from) (ClaimsAnswer.BadToken at) ne e f = ap ClaimsAnswer.BadToken f
same_answer (ClaimsAnswer.BadToken from) (ClaimsAnswer.Rejected at) ne e f = absurd (omega (arith, e))
same_answer (ClaimsAnswer.BadToken from) (ClaimsAnswer.Refused b) ne e f = absurd (no_refusal b e (inr (inr (inl refl))))
same_answer (ClaimsAnswer.Rejected from) ClaimsAnswer.LongText ne e f = absurd (omega (arith, e))
same_answer (ClaimsAnswer.Rejected from) (ClaimsAnswer.BadToken at) ne e f = absurd (omega (arith, e))
same_answer (ClaimsAnswer.Rejected from) (ClaimsAnswer.Rejected at) ne e f = ap ClaimsAnswer.Rejected f
same_answer (ClaimsAnswer.Rejected from) (ClaimsAnswer.Refused b) ne e f = absurd (no_refusal b e (inr (inr (inr refl))))
same_answer (ClaimsAnswer.Refused c) ClaimsAnswer.LongText ne e f = absurd (no_refusal c (sym e) (inr (inl refl)))
same_answer (ClaimsAnswer.Refused c) (ClaimsAnswer.BadToken at) ne e f = absurd (no_refusal c (sym e) (inr (inr (inl refl))))
same_answer (ClaimsAnswer.Refused c) (ClaimsAnswer.Rejected at) ne e f = absurd (no_refusal c (sym e) (inr (inr (inr refl))))
same_answer (ClaimsAnswer.Refused c) (ClaimsAnswer.Refused b) ne e f = ap ClaimsAnswer.Refused (refusal_same c b e f)

-- ---- of the contract

module _ {g : ClaimsGiven} {n : IgbVerdict} (w : ChecksIn g n) where
  number_is : n.answer ≡ claims_number (claims_answer g)
  number_is = ap (λ (m : IgbVerdict). m.answer) w.result_is

  place_is : n.place ≡ claims_place (claims_answer g)
  place_is = ap (λ (m : IgbVerdict). m.place) w.result_is

  -- 0 exactly if the formula is taken and the text says a model and some claims whose trees hold
  pub verdict_accepted : (n.answer ≡ 0) ↔ (FormulaTaken g × (k : ℕ) × ClaimsFile g.vars (clauses g.entries) g.text k)
  verdict_accepted = (
    λ e. there (accepted_of_number (claims_answer g) (sym number_is ∙ e)),
    λ h. number_is ∙ ap claims_number ((text-theorems.claims_accepted g h.1).1 (h.0, h.2)),
  )
    where
      there : (k : ℕ) × (claims_answer g ≡ ClaimsAnswer.Accepted k) → FormulaTaken g × (k : ℕ) × ClaimsFile g.vars (clauses g.entries) g.text k
      there (k, q) = let (t, f) = (text-theorems.claims_accepted g k).0 q in (t, k, f)

  -- then a model exists and every literal that the text claims is in all models
  pub verdict_forced : n.answer ≡ 0
      → (k : ℕ) × (f : ClaimsFile g.vars (clauses g.entries) g.text k)
      × ((c : Claim) → In c f.claims → Forced g.vars (clauses g.entries) c.literal)
  verdict_forced e = let (t, k, f) = verdict_accepted.0 e in (k, f, text-theorems.claims_forced f.text_is)

  -- each refusal and rejection has its number and its place exactly when its rule says so
  pub verdict_refused_exactly : (a : ClaimsAnswer) → ((k : ℕ) → a ≢ ClaimsAnswer.Accepted k)
      → ((n.answer ≡ claims_number a) × (n.place ≡ claims_place a)) ↔ ClaimsRefuses g a
  verdict_refused_exactly a ne =
      let exactly = text-theorems.claims_refusals g a ne in (
        λ e. exactly.0 (same_answer (claims_answer g) a ne (sym number_is ∙ e.0) (sym place_is ∙ e.1)),
        λ r. let q = exactly.1 r in (number_is ∙ ap claims_number q, place_is ∙ ap claims_place q),
      )
