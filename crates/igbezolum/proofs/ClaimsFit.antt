-- From the promise of `claims::check_claims` to that in numbers.
--
--   checks_fit        the place fits the field of the struct
--   checks_in         what is returned in numbers
--
-- Assumes nothing.
use mathlib.Core.Path.{◌≡◌, refl, ◌∙◌, ap}
use mathlib.Core.Option.{Option, none, some}
use Prim.Native.Nat.{◌≤◌}
use native.Mathlib.Omega.{arith}
use Rattle.rules.specs.declared.Refusal.{Refusal}
use Rattle.rules.specs.declared.ClaimsAnswer.{ClaimsAnswer}
use Rattle.rules.specs.Numbers.{max_text, max_entries, refusal_place, claims_place}
use Rattle.texts.specs.ClaimsReading.{ClaimsGiven, claims_refusal, judge_claims, claims_answer_if, claims_answer, Checks}
use Rattle.texts.specs.ClaimsRefusals.{ClaimsRefuses, many_vars, bad_list, at_token}
use Rattle.rules.proofs.ListLaws.{apart}
use Rattle.texts.proofs.Theorems as text-theorems
use Rattle.igbezolum.specs.declared.verdict.IgbVerdict.{IgbVerdict}
use Rattle.igbezolum.specs.ClaimsLinked.{verdict_numbers, ChecksIn}
use Rattle.igbezolum.proofs.FitLaws.{refused_place}

refusal_place_lem : {g : ClaimsGiven} {a : Refusal} → ClaimsRefuses g (ClaimsAnswer.Refused a) → refusal_place a ≤ max_entries
refusal_place_lem (many_vars h) = omega arith
refusal_place_lem (bad_list h r) = refused_place r
refusal_place_lem (at_token before t after b e p s) = elim s [ ]

pub checks_fit : {g : ClaimsGiven} {r : ClaimsAnswer} → Checks g r → claims_place r ≤ max_text
unfolding claims_answer
checks_fit {g} {r} w = go (claims_refusal g) refl
  where
    go : (o : Option Refusal) → claims_refusal g ≡ o → claims_place r ≤ max_text
    go none q =
        omega (arith, ap claims_place (w.result_is ∙ ap (λ (o : Option Refusal). claims_answer_if o (judge_claims g)) q), text-theorems.claims_place_lem g)
    go (some a) q =
        let said : claims_answer g ≡ ClaimsAnswer.Refused a = ap (λ (o : Option Refusal). claims_answer_if o (judge_claims g)) q in
        omega (
          arith,
          ap claims_place (w.result_is ∙ said),
          refusal_place_lem ((text-theorems.claims_refusals g (ClaimsAnswer.Refused a) (λ n e. apart cc)).0 said),
        )

pub checks_in : {g : ClaimsGiven} {r : ClaimsAnswer} {n : IgbVerdict} → Checks g r → n ≡ verdict_numbers r → ChecksIn g n
checks_in w e = record { result_is = e ∙ ap verdict_numbers w.result_is }
