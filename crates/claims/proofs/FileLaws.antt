-- The laws of src/lib.rt: the number of claims, the whole file, and what is refused of the formula.
--
--   count_stop, count_claims      the number of claims
--   file_stop, file_claims        the whole file
--   unset_cleared, length-cleared     values with no variable set
--   front_len, formula_front, file_front     the front of a buffer
--   found_formula     the starts as they are found are those of the formula
--   list_taken        a list that no rule refuses
--   checks_refused, checks_long, checks_file     the answer
--
-- Assumes nothing.
use mathlib.Core.Path.{◌≡◌, refl, sym, ◌∙◌, ap, subst}
use mathlib.Core.Bool.{false}
use mathlib.Core.List.{List, []}
use mathlib.Core.Option.{Option, none, some}
use Prim.Native.Nat.{ℕ, ◌+◌, ◌≤◌, ◌<◌}
use native.Mathlib.Omega.{arith}
use lib.Dec.{ltb}
use lib.IntN.{ℤ}
use lib.ListN.{length, take, replicate, length-replicate}
use lib.Seq.{length-take-le}
use borrow.Author.Tests.{lt-ltb, le-ltb}
use Rattle.std.specs.Prelude.{Ok, Err}
use Rattle.reader.specs.declared.next.Spot.{Spot}
use Rattle.rules.specs.declared.Refusal.{Refusal}
use Rattle.rules.specs.declared.ClaimsAnswer.{ClaimsAnswer}
use Rattle.rules.specs.Lists.{first_of}
use Rattle.rules.specs.Numbers.{max_text, max_vars}
use Rattle.rules.specs.Meaning.{Clause, Values, clauses}
use Rattle.rules.specs.Answer.{taking_rules}
use Rattle.texts.specs.ClaimsReading.{literals_due, claims_due, claims_given, claims_refusal, judge_claims, claims_answer_if, claims_answer, Checks}
use Rattle.texts.specs.ClaimsRefusals.{no_literal}
use Rattle.rules.proofs.ListLaws.{apart}
use Rattle.rules.proofs.ClauseLaws.{length-clauses}
use Rattle.texts.proofs.ClaimsJudged.{taken_of_none}
use Rattle.std.specs.Prelude.{Ok, Err}
use Rattle.refusals.specs.Refuse.{found}
use Rattle.formula.specs.Starts.{starts_of, StartsFound}
use Rattle.formula.specs.Formula.{Formula}
use Rattle.formula.proofs.StartsLaws.{found_front}
use Rattle.claims.specs.declared.taken.Due.{Due}
use Rattle.claims.specs.Steps.{judge_at, Unset, IsDue, Taken, stops, takes, ModelRead, model_on, model_stop}
use Rattle.claims.specs.Steps.{ClaimsChecked, CountChecked, FileChecked, ListTaken}
use Rattle.claims.proofs.TakenLaws.{var_of_value}

-- ---- the number of claims

due_claims : (vars : ℕ) (F : List Clause) (from : ℕ) (vs : Values) → IsDue vars F (literals_due from 0 vs) Due.Claims
due_claims vars F from vs = record { unfinished = no_literal; fault = λ l. refl }

module _ (vars : ℕ) (F : List Clause) {text : List ℕ} where
  pub count_stop : {at : ℕ} {a : ClaimsAnswer} → Taken text at Due.Claims (Err a) → CountChecked vars F text at a
  count_stop (stops g) = record { answer_is = λ from vs. g vars F (literals_due from 0 vs) (due_claims vars F from vs) }

  pub count_claims : {at : ℕ} {s : Spot} {a : ClaimsAnswer} → Taken text at Due.Claims (Ok s)
      → ClaimsChecked vars F text s.to s.entry.number a → CountChecked vars F text at a
  count_claims {s = s} (takes g n f) w =
      record {
        answer_is = λ from vs.
            g vars F (literals_due from 0 vs) (due_claims vars F from vs) ∙
            ap (λ (n : ℕ). judge_at vars F text (claims_due n n []) s.to) (var_of_value s.entry) ∙ w.answer_is;
      }

  -- ---- the whole file

  pub file_stop : {a : ClaimsAnswer} → ModelRead vars F text (Err a) → FileChecked vars F text a
  file_stop (model_stop e) = record { answer_is = e }

  pub file_claims : {to : ℕ} {a : ClaimsAnswer} → ModelRead vars F text (Ok to) → CountChecked vars F text to a → FileChecked vars F text a
  file_claims (model_on from vs e) w = record { answer_is = e ∙ w.answer_is from vs }

-- ---- the values

-- bytes that were set to 0 are values with no variable set
pub unset_cleared : {es : List ℤ} {starts : List ℕ} (us xs vs : List ℕ) → us ≡ replicate (length xs) 0 → length xs ≡ length vs
    → Formula (length vs) es starts → Unset es starts us
unset_cleared {es} {starts} us xs vs e h f =
    let n : length us ≡ length xs = ap length e ∙ length-replicate {A = ℕ} (length xs) 0 in
    record {
      formula = subst (λ (k : ℕ). Formula k es starts) (sym (n ∙ h)) f;
      unset = e ∙ ap (λ (k : ℕ). replicate k 0) (sym n);
    }

pub length-cleared : (us xs vs : List ℕ) → us ≡ replicate (length xs) 0 → length xs ≡ length vs → length us ≡ length vs
length-cleared us xs vs e h = ap length e ∙ length-replicate {A = ℕ} (length xs) 0 ∙ h

-- the front of a buffer that is long enough
pub front_len : {A : Type 0} (n : ℕ) (xs : List A) → n ≤ length xs → n ≡ length (take n xs)
front_len n xs h = sym (length-take-le n xs h)

pub formula_front : {es : List ℤ} {starts : List ℕ} (vars : ℕ) (xs : List ℕ) → vars ≤ length xs → Formula vars es starts
    → Formula (length (take vars xs)) es starts
formula_front {es} {starts} vars xs h f = subst (λ (n : ℕ). Formula n es starts) (front_len vars xs h) f

pub file_front : {F : List Clause} {text : List ℕ} {a : ClaimsAnswer} (vars : ℕ) (xs : List ℕ) → vars ≤ length xs
    → FileChecked (length (take vars xs)) F text a → FileChecked vars F text a
file_front {F} {text} {a} vars xs h w = subst (λ (n : ℕ). FileChecked n F text a) (sym (front_len vars xs h)) w

-- ---- the formula

pub found_formula : {vars n : ℕ} {es : List ℤ} {before after : List ℕ} → Formula vars es (starts_of es) → StartsFound es before n after
    → Formula vars es (take (n + 1) after)
found_formula f w =
    record { vars_fit = f.vars_fit; entries_most = f.entries_most; clauses_most = f.clauses_most; starts_are = found_front w; up_to = f.up_to }

found_some : (o : Option Refusal) {a : Refusal} → Err a ≡ found o → o ≡ some a
found_some none e = apart cc
found_some (some b) e = cc

found_none : (o : Option Refusal) → Ok tt ≡ found o → o ≡ none
found_none none e = refl
found_none (some b) e = apart cc

module _ (es : List ℤ) (vars : ℕ) (text : List ℕ) where
  -- what is refused of the list where no buffer is lent and nothing is held
  abbrev list_refusal : Option Refusal
  list_refusal = first_of (taking_rules (ltb max_vars vars) false es vars [])

  refusal_is : list_refusal ≡ claims_refusal (claims_given es vars text)
  unfolding claims_refusal
  refusal_is = refl

  pub list_taken : Ok tt ≡ found list_refusal → ListTaken vars es
  list_taken e =
      let t = taken_of_none (claims_given es vars text) (sym refusal_is ∙ found_none list_refusal e) in
      record {
        formula =
            record {
              vars_fit = t.vars_fit;
              entries_most = omega (arith, t.list.listed.entries_fit);
              clauses_most = omega (arith, length-clauses es, t.list.listed.clauses_fit);
              starts_are = refl;
              up_to = t.list.up_to;
            };
        clauses_most = omega (arith, length-clauses es, t.list.listed.clauses_fit);
      }

  pub checks_refused : {a : Refusal} → Err a ≡ found list_refusal → Checks (claims_given es vars text) (ClaimsAnswer.Refused a)
  unfolding claims_answer
  checks_refused e =
      record {
        result_is =
            sym (ap (λ (o : Option Refusal). claims_answer_if o (judge_claims (claims_given es vars text))) (sym refusal_is ∙ found_some list_refusal e));
      }

  answer_none : Ok tt ≡ found list_refusal → claims_answer (claims_given es vars text) ≡ judge_claims (claims_given es vars text)
  unfolding claims_answer
  answer_none e =
      ap (λ (o : Option Refusal). claims_answer_if o (judge_claims (claims_given es vars text))) (sym refusal_is ∙ found_none list_refusal e)

  pub checks_long : Ok tt ≡ found list_refusal → max_text < length text → Checks (claims_given es vars text) ClaimsAnswer.LongText
  unfolding judge_claims
  checks_long e h = record { result_is = sym (answer_none e ∙ rw (lt-ltb max_text (length text) h)) }

  pub checks_file : {a : ClaimsAnswer} → Ok tt ≡ found list_refusal → length text ≤ max_text → FileChecked vars (clauses es) text a
      → Checks (claims_given es vars text) a
  unfolding judge_claims
  checks_file {a} e h w =
      let judged : judge_claims (claims_given es vars text) ≡ a = rw (le-ltb max_text (length text) h) w.answer_is in
      record { result_is = sym (answer_none e ∙ judged) }
