-- The laws of src/claim.rt: a claim and its tree, the loop over the claims, and the end of the text.
--
--   claim_some, claim_within    a claim's variable is one of the variables
--   claim_values      its negation alone
--   claim_stop, claim_tree    one claim
--   ends_here, ends_bad, ends_behind     no claim is due
--   Checking, checking_start, checking_unset, checking_stop, checking_step, checking_done     the loop over the claims
--
-- Assumes nothing.
use mathlib.Core.Path.{◌≡◌, refl, sym, ◌∙◌, ap, subst}
use mathlib.Core.Bool.{Bool, true, false}
use mathlib.Core.List.{List, [], ◌∷◌}
use Prim.Native.Nat.{ℕ, zero, suc, ◌-◌, ◌≤◌, ◌<◌}
use native.Mathlib.Omega.{arith}
use lib.IntN.{ℤ, pos, negsuc}
use lib.ListN.{length, set, replicate}
use Rattle.rules.specs.declared.ClaimsAnswer.{ClaimsAnswer}
use Rattle.rules.specs.Meaning.{Clause, Values, LitUpTo, negated, index_of, value_at, true_byte}
use Rattle.rules.specs.Run.{blank}
use Rattle.texts.specs.Claims.{against}
use Rattle.texts.specs.ClaimsReading.{claims_due, judge_parts}
use Rattle.texts.specs.ClaimsRefusals.{no_claim}
use Rattle.rules.proofs.AnswerLaws.{no_literal_false}
use Rattle.texts.proofs.ClaimsJudged.{judge_malformed, judge_finished}
use Rattle.std.specs.Prelude.{Some, None, Ok, Err}
use Rattle.reader.specs.declared.next.Spot.{Spot}
use Rattle.reader.specs.declared.token.Entry.{Entry}
use Rattle.reader.specs.Words.{value_of}
use Rattle.reader.specs.Next.{tokens_at, bytes_at, Finds}
use Rattle.formula.specs.Literals.{byte_of}
use Rattle.claims.specs.declared.taken.Due.{Due}
use Rattle.claims.specs.Steps.{judge_at, Step, Leads, on, stop, SignFits, IsDue, Taken, stops, takes, TreeRead, Unset, ClaimChecked, EndChecked, ClaimsChecked}
use Rattle.claims.proofs.StepLaws.{fault_stop, value_minus, value_plain}
use Rattle.claims.proofs.TakenLaws.{var_of_value, lead_then}

-- ---- a claim

module _ {text : List ℕ} {at : ℕ} (vars : ℕ) (s : Spot) (t : Taken text at (Due.Claim vars) (Ok s)) where
  up_to : Taken text at (Due.Claim vars) (Ok s) → LitUpTo vars (value_of s.entry)
  up_to (takes g n f) = no_literal_false vars (value_of s.entry) n

  pub claim_some : 1 ≤ s.entry.number
  claim_some = omega (arith, (up_to t).some, var_of_value s.entry)

  claim_most : s.entry.number ≤ vars
  claim_most = omega (arith, (up_to t).most, var_of_value s.entry)

  pub claim_within : s.entry.number - 1 < vars
  claim_within = omega (arith, claim_some, claim_most)

sign_of : {text : List ℕ} {at : ℕ} {due : Due} {s : Spot} → Taken text at due (Ok s) → SignFits s.entry
sign_of (takes g n f) = f

-- the index and the byte of a claim's negation
negation_byte : (e : Entry) → SignFits e → 1 ≤ e.number
    → (index_of (negated (value_of e)) ≡ e.number - 1) × (true_byte (negated (value_of e)) ≡ byte_of e.minus)
negation_byte e f h = go e.minus refl
  where
    plain : (n : ℕ) → 1 ≤ n → (index_of (negated (pos n)) ≡ n - 1) × (true_byte (negated (pos n)) ≡ 1)
    plain zero h = absurd (omega arith)
    plain (suc n) h = (omega arith, refl)

    minus : (n : ℕ) → (index_of (negated (negsuc n)) ≡ n) × (true_byte (negated (negsuc n)) ≡ 2)
    minus n = (refl, refl)

    go : (b : Bool) → e.minus ≡ b → (index_of (negated (value_of e)) ≡ e.number - 1) × (true_byte (negated (value_of e)) ≡ byte_of e.minus)
    go true m = (
      ap (λ (l : ℤ). index_of (negated l)) (value_minus e m h) ∙ (minus (e.number - 1)).0,
      ap (λ (l : ℤ). true_byte (negated l)) (value_minus e m h) ∙ (minus (e.number - 1)).1 ∙ ap byte_of (sym m),
    )
    go false m = (
      ap (λ (l : ℤ). index_of (negated l)) (value_plain e m) ∙ (plain e.number h).0,
      ap (λ (l : ℤ). true_byte (negated l)) (value_plain e m) ∙ (plain e.number h).1 ∙ ap byte_of (sym m),
    )

pub claim_values : {text : List ℕ} {at : ℕ} (vs : Values) (s : Spot) → vs ≡ blank (length vs)
    → Taken text at (Due.Claim (length vs)) (Ok s) → set vs (s.entry.number - 1) (byte_of s.entry.minus) ≡ against (length vs) (value_of s.entry)
claim_values vs s u t =
    let e = s.entry in
    let (i, b) = negation_byte e (sign_of t) (claim_some (length vs) s t) in
    ap (λ (xs : Values). set xs (e.number - 1) (byte_of e.minus)) u ∙
    ap (λ (j : ℕ). set (blank (length vs)) j (byte_of e.minus)) (sym i) ∙
    ap (λ (x : ℕ). set (blank (length vs)) (index_of (negated (value_of e))) x) (sym b)

-- an index of blank values is unset
pub unset_blank : (vs : Values) (i : ℕ) → vs ≡ blank (length vs) → i < length vs → value_at vs i ≡ 0
unset_blank vs i u h = ap (λ (xs : Values). value_at xs i) u ∙ go (length vs) i h
  where
    go : (n i : ℕ) → i < n → value_at (replicate n 0) i ≡ 0
    go zero i h = absurd (omega arith)
    go (suc n) zero h = refl
    go (suc n) (suc i) h = go n i (omega arith)

due_claim : (vars : ℕ) (F : List Clause) (n k : ℕ) → IsDue vars F (claims_due n (suc k) []) (Due.Claim vars)
due_claim vars F n k = record { unfinished = no_claim; fault = λ l. refl }

module _ (F : List Clause) {text : List ℕ} {at : ℕ} (vs : Values) where
  pub claim_stop : {a : ClaimsAnswer} → Taken text at (Due.Claim (length vs)) (Err a) → ClaimChecked F text at vs (Err a) vs
  claim_stop (stops g) =
      record { leads = λ n k. stop (g (length vs) F (claims_due n (suc k) []) (due_claim (length vs) F n k)); same = refl }

  pub claim_tree : {s : Spot} {us after : Values} {r : Step} → Taken text at (Due.Claim (length vs)) (Ok s)
      → us ≡ against (length vs) (value_of s.entry) → TreeRead F text us s.to r → after ≡ vs → ClaimChecked F text at vs r after
  claim_tree {s} {us = us} {r = r} (takes g n f) u w same =
      record {
        leads = λ m k.
            lead_then (g (length vs) F (claims_due m (suc k) []) (due_claim (length vs) F m k))
            (subst (λ (xs : Values). Leads (length vs) F text (claims_due m k (xs ∷ [])) s.to (claims_due m k []) r) u (w.leads (length vs) m k []));
        same = same;
      }

-- ---- no claim is due

module _ (text : List ℕ) (at n : ℕ) where
  pub ends_here : Finds text at (Ok None) → EndChecked text at n (ClaimsAnswer.Accepted n)
  ends_here (Finds.no_token e) =
      record { answer_is = λ vars F. ap (judge_parts vars F (length text) (claims_due n 0 [])) e ∙ judge_finished vars F (length text) n }

  pub ends_bad : (from : ℕ) → Finds text at (Err from) → EndChecked text at n (ClaimsAnswer.BadToken from)
  ends_bad from (Finds.malformed to x e) =
      record {
        answer_is = λ vars F.
            ap (judge_parts vars F (length text) (claims_due n 0 [])) x.tokens ∙
            judge_malformed vars F (length text) (claims_due n 0 []) (record { at = from; bytes = bytes_at text from to }) (tokens_at text to) e;
      }

  pub ends_behind : (s : Spot) → Finds text at (Ok (Some s)) → EndChecked text at n (ClaimsAnswer.Rejected s.from)
  ends_behind s (Finds.number x h m) =
      record { answer_is = λ vars F. fault_stop vars F (claims_due n 0 []) (value_of s.entry) x h refl }

-- ---- the loop over the claims

-- of n claims so many are left, and the values are as they were
pub record Checking (F : List Clause) (text : List ℕ) (at n : ℕ) (before : Values) (next left : ℕ) (vs : Values) : Type 0 where
  pub same : vs ≡ before
  pub leads : judge_at (length before) F text (claims_due n n []) at ≡ judge_at (length before) F text (claims_due n left []) next

pub checking_start : (F : List Clause) (text : List ℕ) (at n : ℕ) (vs : Values) → Checking F text at n vs at n vs
checking_start F text at n vs = record { same = refl; leads = refl }

pub checking_unset : {es : List ℤ} {starts : List ℕ} {F : List Clause} {text : List ℕ} {at n : ℕ} {before vs : Values} {next left : ℕ}
    → Checking F text at n before next left vs → Unset es starts before → Unset es starts vs
checking_unset {es} {starts} c u = subst (Unset es starts) (sym c.same) u

module _ {F : List Clause} {text : List ℕ} {at n : ℕ} {before vs : Values} {next left : ℕ} (c : Checking F text at n before next left vs) where
  -- the claim that is due
  one : {r : Step} {after : Values} → 0 < left → ClaimChecked F text next vs r after
      → Leads (length before) F text (claims_due n (suc (left - 1)) []) next (claims_due n (left - 1) []) r
  one {r} h w =
      subst (λ (k : ℕ). Leads k F text (claims_due n (suc (left - 1)) []) next (claims_due n (left - 1) []) r) (ap length c.same) (w.leads n (left - 1))

  due : 0 < left → judge_at (length before) F text (claims_due n n []) at ≡ judge_at (length before) F text (claims_due n (suc (left - 1)) []) next
  due h =
      let e : left ≡ suc (left - 1) = omega arith in c.leads ∙ ap (λ (k : ℕ). judge_at (length before) F text (claims_due n k []) next) e

  pub checking_stop : {a : ClaimsAnswer} {after : Values} → 0 < left → ClaimChecked F text next vs (Err a) after
      → ClaimsChecked (length before) F text at n a
  checking_stop {a} h w = go (one h w)
    where
      go : Leads (length before) F text (claims_due n (suc (left - 1)) []) next (claims_due n (left - 1) []) (Err a)
          → ClaimsChecked (length before) F text at n a
      go (stop q) = record { answer_is = due h ∙ q }

  pub checking_step : {to : ℕ} {after : Values} → 0 < left → ClaimChecked F text next vs (Ok to) after
      → Checking F text at n before to (left - 1) after
  checking_step {to} {after} h w = record { same = w.same ∙ c.same; leads = go (one h w) }
    where
      go : Leads (length before) F text (claims_due n (suc (left - 1)) []) next (claims_due n (left - 1) []) (Ok to)
          → judge_at (length before) F text (claims_due n n []) at ≡ judge_at (length before) F text (claims_due n (left - 1) []) to
      go (on q) = due h ∙ q

  pub checking_done : {a : ClaimsAnswer} → left ≤ 0 → EndChecked text next n a → ClaimsChecked (length before) F text at n a
  checking_done h w =
      let e : left ≡ 0 = omega arith in
      record {
        answer_is =
            c.leads ∙ ap (λ (k : ℕ). judge_at (length before) F text (claims_due n k []) next) e ∙ w.answer_is (length before) F;
      }
