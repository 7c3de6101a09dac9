-- The laws of src/model.rt: the literals one by one, and the model when it has been read.
--
--   Reading, reading_start, reading_step, reading_stop, reading_done     the loop over the literals
--   none_false, some_false    whether a clause has no true literal
--   model_none, model_cut, model_ends, model_fails     the model
--
-- Assumes nothing.
use mathlib.Core.Path.{◌≡◌, refl, sym, ◌∙◌, ap, ap₂}
use mathlib.Core.Bool.{Bool, true, false, not, ◌&&◌}
use mathlib.Core.List.{List, [], ◌∷◌, ◌++◌}
use mathlib.Core.Option.{none, some}
use mathlib.Core.Option.{Option as Maybe}
use Prim.Native.Nat.{ℕ, zero, suc, ◌+◌, ◌-◌, ◌≤◌, ◌<◌}
use native.Mathlib.Omega.{arith}
use native.Mathlib.Numerals.{add-one}
use lib.Dec.{eqb}
use lib.ListN.{length, take, set, length-set}
use lib.Seq.{length-take-le, take-suc-set}
use Rattle.rules.specs.declared.ClaimsAnswer.{ClaimsAnswer}
use Rattle.rules.specs.declared.ClauseNo.{ClauseNo}
use Rattle.rules.specs.Lists.{or_next}
use Rattle.rules.specs.Meaning.{Clause, Values, var_of, true_byte, has_true, satisfies, first_false_from, first_false}
use Rattle.texts.specs.ClaimsReading.{model_due, literals_due}
use Rattle.texts.specs.ClaimsRefusals.{no_count, no_literal}
use Rattle.rules.proofs.ListLaws.{apart}
use Rattle.reader.specs.declared.token.Entry.{Entry}
use Rattle.reader.specs.Words.{value_of}
use Rattle.std.specs.Prelude.{Some, None, Ok, Err}
use Rattle.reader.specs.declared.next.Spot.{Spot}
use Rattle.formula.specs.Literals.{byte_of}
use Rattle.formula.specs.Formula.{first_false_of}
use Rattle.claims.specs.declared.taken.Due.{Due}
use Rattle.claims.specs.Steps.{judge_at, judge_from, Leads, on, stop, SignFits, IsDue, Taken, stops, takes, LiteralsRead, ModelRead, model_on, model_stop}
use Rattle.claims.proofs.StepLaws.{value_minus, value_plain}

-- ---- the loop over the literals

-- the first i literals have been read, and their values stored
pub record Reading (text : List ℕ) (at vars i next : ℕ) (vs : Values) : Type 0 where
  pub within : i ≤ vars
  pub length_is : length vs ≡ vars
  pub leads : (F : List Clause) (from : ℕ)
      → judge_from vars F text (literals_due from vars []) at ≡ judge_from vars F text (literals_due from (vars - i) (take i vs)) next

pub reading_start : (text : List ℕ) (at : ℕ) (vs : Values) → Reading text at (length vs) 0 at vs
reading_start text at vs =
    let e : length vs ≡ length vs - 0 = omega arith in
    record {
      within = omega arith;
      length_is = refl;
      leads = λ F from. ap (λ (k : ℕ). judge_from (length vs) F text (literals_due from k []) at) e;
    }

due_literal : (vars : ℕ) (F : List Clause) (from k v : ℕ) (ws : Values) → suc (length ws) ≡ v
    → IsDue vars F (literals_due from (suc k) ws) (Due.Literal v)
due_literal vars F from k v ws e = record { unfinished = no_literal; fault = λ l. ap (λ (n : ℕ). not (eqb (var_of l) n)) e }

-- the value of a literal, by its sign
value_byte : (e : Entry) → SignFits e → true_byte (value_of e) ≡ byte_of (not e.minus)
value_byte e f = go e.minus refl
  where
    go : (b : Bool) → e.minus ≡ b → true_byte (value_of e) ≡ byte_of (not e.minus)
    go true m = ap true_byte (value_minus e m (f.some m)) ∙ ap (λ (b : Bool). byte_of (not b)) (sym m)
    go false m = ap true_byte (value_plain e m) ∙ ap (λ (b : Bool). byte_of (not b)) (sym m)

module _ {text : List ℕ} {at vars i next : ℕ} {vs : Values} (r : Reading text at vars i next vs) where
  -- one more literal is due
  due_next : i < vars → (F : List Clause) (from : ℕ)
      → judge_from vars F text (literals_due from vars []) at ≡ judge_at vars F text (literals_due from (suc (vars - (i + 1))) (take i vs)) next
  due_next h F from =
      let e : vars - i ≡ suc (vars - (i + 1)) = omega arith in
      r.leads F from ∙ ap (λ (k : ℕ). judge_from vars F text (literals_due from k (take i vs)) next) e

  is-due : i < vars → (F : List Clause) (from : ℕ) → IsDue vars F (literals_due from (suc (vars - (i + 1))) (take i vs)) (Due.Literal (i + 1))
  is-due h F from =
      due_literal vars F from (vars - (i + 1)) (i + 1) (take i vs) (omega (arith, length-take-le i vs (omega (arith, r.length_is, r.within))))

  pub reading_step : {s : Spot} → i < vars → Taken text next (Due.Literal (i + 1)) (Ok s)
      → Reading text at vars (i + 1) s.to (set vs i (byte_of (not s.entry.minus)))
  reading_step {s} h (takes g n f) =
      record {
        within = omega arith;
        length_is = length-set vs i (byte_of (not s.entry.minus)) ∙ r.length_is;
        leads = λ F from.
            due_next h F from ∙ g vars F (literals_due from (suc (vars - (i + 1))) (take i vs)) (is-due h F from) ∙
            ap (λ (ws : Values). judge_from vars F text (literals_due from (vars - (i + 1)) ws) s.to) values_are;
      }
    where
      values_are : take i vs ++ (true_byte (value_of s.entry) ∷ []) ≡ take (i + 1) (set vs i (byte_of (not s.entry.minus)))
      values_are =
          ap (λ (b : ℕ). take i vs ++ (b ∷ [])) (value_byte s.entry f) ∙
          sym (take-suc-set vs i (byte_of (not s.entry.minus)) (omega (arith, r.length_is))) ∙
          ap (λ (n : ℕ). take n (set vs i (byte_of (not s.entry.minus)))) (sym (add-one i))

  pub reading_stop : {a : ClaimsAnswer} → i < vars → Taken text next (Due.Literal (i + 1)) (Err a) → LiteralsRead text at vars (Err a) vs
  reading_stop h (stops g) =
      record {
        length_is = r.length_is;
        leads = λ F from. stop (due_next h F from ∙ g vars F (literals_due from (suc (vars - (i + 1))) (take i vs)) (is-due h F from));
      }

  pub reading_done : vars ≤ i → LiteralsRead text at vars (Ok next) vs
  reading_done h =
      let none_left : vars - i ≡ 0 = omega arith in
      let all : take i vs ≡ vs = whole i vs (omega (arith, r.length_is)) in
      record {
        length_is = r.length_is;
        leads = λ F from. on (r.leads F from ∙ ap₂ (λ (k : ℕ) (ws : Values). judge_from vars F text (literals_due from k ws) next) none_left all);
      }
    where
      whole : (n : ℕ) (ws : Values) → length ws ≤ n → take n ws ≡ ws
      whole zero [] k = refl
      whole (suc n) [] k = refl
      whole zero (b ∷ ws) k = absurd (omega arith)
      whole (suc n) (b ∷ ws) k = ap (λ (xs : Values). b ∷ xs) (whole n ws (omega arith))

-- ---- whether a clause has no true literal

none_from : (n : ℕ) (vs : Values) (F : List Clause) → first_false_from n vs F ≡ none → satisfies vs F ≡ true
none_from n vs [] e = refl
none_from n vs (cl ∷ F) e = go (has_true vs cl) (none_from (suc n) vs F) e
  where
    go : (b : Bool) → (first_false_from (suc n) vs F ≡ none → satisfies vs F ≡ true) → or_next (not b) n (first_false_from (suc n) vs F) ≡ none
        → (b && satisfies vs F) ≡ true
    go true ih q = ih q
    go false ih q = apart cc

some_from : (n k : ℕ) (vs : Values) (F : List Clause) → first_false_from n vs F ≡ some k → satisfies vs F ≡ false
some_from n k vs [] e = apart cc
some_from n k vs (cl ∷ F) e = go (has_true vs cl) (some_from (suc n) k vs F) e
  where
    go : (b : Bool) → (first_false_from (suc n) vs F ≡ some k → satisfies vs F ≡ false) → or_next (not b) n (first_false_from (suc n) vs F) ≡ some k
        → (b && satisfies vs F) ≡ false
    go true ih q = ih q
    go false ih q = refl

module _ (vs : Values) (F : List Clause) where
  pub none_false : first_false_of (first_false vs F) ≡ None → satisfies vs F ≡ true
  none_false e = go (first_false vs F) refl e
    where
      go : (o : Maybe ℕ) → first_false vs F ≡ o → first_false_of o ≡ None → satisfies vs F ≡ true
      go none q e = none_from 1 vs F q
      go (some n) q e = apart cc

  pub some_false : {n : ClauseNo} → first_false_of (first_false vs F) ≡ Some n → satisfies vs F ≡ false
  some_false e = go (first_false vs F) refl e
    where
      go : {n : ClauseNo} (o : Maybe ℕ) → first_false vs F ≡ o → first_false_of o ≡ Some n → satisfies vs F ≡ false
      go none q e = apart cc
      go (some k) q e = some_from 1 k vs F q

-- ---- the model

due_count : (vars : ℕ) (F : List Clause) → IsDue vars F model_due (Due.Count vars)
due_count vars F = record { unfinished = no_count; fault = λ l. refl }

module _ {vars : ℕ} (F : List Clause) {text : List ℕ} where
  pub model_none : {a : ClaimsAnswer} → Taken text 0 (Due.Count vars) (Err a) → ModelRead vars F text (Err a)
  model_none (stops g) = model_stop (g vars F model_due (due_count vars F))

  module _ {s : Spot} where
    begun : Taken text 0 (Due.Count vars) (Ok s) → judge_at vars F text model_due 0 ≡ judge_from vars F text (literals_due s.from vars []) s.to
    begun (takes g n f) = g vars F model_due (due_count vars F)

    pub model_cut : {a : ClaimsAnswer} {vs : Values} → Taken text 0 (Due.Count vars) (Ok s) → LiteralsRead text s.to vars (Err a) vs
        → ModelRead vars F text (Err a)
    model_cut {a} {vs} t w = go (w.leads F s.from)
      where
        go : Leads vars F text (literals_due s.from vars []) s.to (literals_due s.from 0 vs) (Err a) → ModelRead vars F text (Err a)
        go (stop q) = model_stop (begun t ∙ q)

    read : {later : ℕ} {vs : Values} → Taken text 0 (Due.Count vars) (Ok s) → LiteralsRead text s.to vars (Ok later) vs
        → judge_at vars F text model_due 0 ≡ judge_from vars F text (literals_due s.from 0 vs) later
    read {later} {vs} t w = go (w.leads F s.from)
      where
        go : Leads vars F text (literals_due s.from vars []) s.to (literals_due s.from 0 vs) (Ok later)
            → judge_at vars F text model_due 0 ≡ judge_from vars F text (literals_due s.from 0 vs) later
        go (on q) = begun t ∙ q

    pub model_ends : {later : ℕ} {vs : Values} → Taken text 0 (Due.Count vars) (Ok s) → LiteralsRead text s.to vars (Ok later) vs
        → satisfies vs F ≡ true → ModelRead vars F text (Ok later)
    model_ends {later = later} {vs = vs} t w h = model_on {to = later} s.from vs (read t w ∙ rw h)

    pub model_fails : {later : ℕ} {vs : Values} → Taken text 0 (Due.Count vars) (Ok s) → LiteralsRead text s.to vars (Ok later) vs
        → satisfies vs F ≡ false → ModelRead vars F text (Err (ClaimsAnswer.Rejected s.from))
    model_fails t w h = model_stop {a = ClaimsAnswer.Rejected s.from} (read t w ∙ rw h)
