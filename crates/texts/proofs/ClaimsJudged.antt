-- The judgement of a file of claims (specs/ClaimsReading): each is refused or rejected by a rule of specs/ClaimsRefusals or is a whole
-- file, and the judgement says which.
--
--   node-sound, node-complete     a number of a tree that is not at fault
--   Cases, cases                  all tokens pass, or one is the first to stop
--   judge_fits, judge_stops       one token
--   refusal_of_list               the formula's own refusal
--   WholeFile                     a file with nothing to refuse or reject
--   ClaimsVerdict                 refused or rejected by a rule, or whole
--   answer_of_verdict, verdict_of_answer     the answer is the verdict
--
-- Assumes nothing.
use mathlib.Core.Path.{◌≡◌, refl, sym, ◌∙◌, ap, subst}
use mathlib.Core.Logic.{◌⊎◌, inl, inr}
use mathlib.Core.Bool.{Bool, true, false, ◌&&◌}
use mathlib.Core.List.{List, [], ◌∷◌, ◌++◌, append-nil}
use mathlib.Core.Option.{Option, none, some}
use Prim.Native.Nat.{ℕ, zero, suc, ◌≤◌, ◌<◌}
use native.Mathlib.Omega.{arith}
use lib.Dec.{eqb, leb}
use lib.IntN.{ℤ, pos, negsuc}
use lib.ListN.{length}
use borrow.Author.Tests.{eqb-true, eqb-false, eq-eqb, ne_eqb, le-leb, lt-leb, lt-ltb, le-ltb}
use Rattle.rules.specs.declared.Refusal.{Refusal}
use Rattle.rules.specs.declared.ClaimsAnswer.{ClaimsAnswer}
use Rattle.rules.specs.Lists.{In, all, eqz, first_of}
use Rattle.rules.specs.Numbers.{max_text, max_vars}
use Rattle.rules.specs.Meaning.{Clause, Values, var_of, clauses, value_at, satisfies}
use Rattle.texts.specs.Text.{Piece, entry_of}
use Rattle.texts.specs.Grammar.{Token}
use Rattle.rules.specs.Held.{is_no_literal}
use Rattle.rules.specs.Answer.{Given, refusal_of}
use Rattle.rules.specs.RunRefusals.{list_alone}
use Rattle.texts.specs.Tokens.{all_tokens}
use Rattle.texts.specs.Claims.{clause_no, is_false, NamesFalse}
use Rattle.texts.specs.ClaimsReading.{Part, model_due, literals_due, claims_due, next, is_node, is_at_fault, model_rules, judge_parts}
use Rattle.texts.specs.ClaimsReading.{ClaimsGiven, claims_refusal, judge_claims, claims_answer_if, claims_answer}
use Rattle.texts.specs.ClaimsRefusals.{Fits, model_count, model_literal_lem, claim_count, claim, node_end, node_split}
use Rattle.texts.specs.ClaimsRefusals.{AtFault, wrong_count, wrong_literal, negative_count, wrong_claim, no_clause, not-false, split_set, behind}
use Rattle.texts.specs.ClaimsRefusals.{Fails, fails, Passes, passed, pass, Stops, bad_token, at_fault, no_model, Unfinished, no_count, no_literal}
use Rattle.texts.specs.ClaimsRefusals.{no_claim, no_tree, FormulaTaken, ClaimsBegun, ClaimsRefuses, many_vars, bad_list, long_text}
use Rattle.texts.specs.ClaimsRefusals.{at_token, short_text}
use Rattle.rules.proofs.ListLaws.{le_or_lt, both, never, not-true, and_right, all_sound, all_complete, all_false}
use Rattle.rules.proofs.ListLaws.{eqz_sound, eqz_refl, eqz_other}
use Rattle.texts.proofs.TokenLaws.{not_none, entry_sound, entry_complete, entry_none}
use Rattle.rules.proofs.AnswerLaws.{lent_alone, refusal_lent, no_literal_sound, no_literal_complete, no_literal_false, no_literal_of}
use Rattle.rules.proofs.RefusedRuns.{run_refused, run_accepted}

-- ---- a number of a tree

module _ (F : List Clause) (vs : Values) where
  names_complete : {n : ℕ} → NamesFalse F vs n → is_node F vs (pos n) ≡ true
  names_complete {n} w =
      rw (le-leb 1 n w.some, le-leb n (length F) w.most) (all_complete (is_false vs) (clause_no F n) w.all_false)

  no_clause_false : (e : ℕ) → (e ≡ 0) ⊎ (length F < e) → is_node F vs (pos e) ≡ false
  no_clause_false e (inl h) = rw (lt-leb 1 e (omega arith))
  no_clause_false e (inr h) = go (leb 1 e)
    where
      go : (b : Bool) → (b && (leb e (length F) && all (is_false vs) (clause_no F e))) ≡ false
      go true = rw (lt-leb e (length F) h)
      go false = refl

  not_false_false : (e : ℕ) (l : ℤ) → In l (clause_no F e) → is_false vs l ≡ false → is_node F vs (pos e) ≡ false
  not_false_false e l i f =
      not-true (is_node F vs (pos e))
      (λ h. never
      (all_sound (is_false vs)
      (and_right (leb e (length F)) (all (is_false vs) (clause_no F e))
      (and_right (leb 1 e) (leb e (length F) && all (is_false vs) (clause_no F e)) h)) i) f)

-- ---- one number: it fits, or is at fault

module _ (vars : ℕ) (F : List Clause) where
  data NumberCases (p : Part) (l : ℤ) : Type 0 where
    fits : Fits vars F p l → NumberCases p l
    faulty : AtFault vars F p l → NumberCases p l

  node_cases : (n k : ℕ) (vs : Values) (due : List Values) (l : ℤ) → NumberCases (claims_due n k (vs ∷ due)) l
  node_cases n k vs due (negsuc i) = go (eqb (value_at vs i) 0) refl
    where
      go : (b : Bool) → eqb (value_at vs i) 0 ≡ b → NumberCases (claims_due n k (vs ∷ due)) (negsuc i)
      go true e = fits (node_split (eqb-true (value_at vs i) 0 e))
      go false e = faulty (split_set (eqb-false (value_at vs i) 0 e))
  node_cases n k vs due (pos e) = go (le_or_lt 1 e) (le_or_lt e (length F)) (both (all (is_false vs) (clause_no F e)))
    where
      found : 1 ≤ e → e ≤ length F → (l : ℤ) × In l (clause_no F e) × (is_false vs l ≡ false) → NumberCases (claims_due n k (vs ∷ due)) (pos e)
      found h j (l, i, f) = faulty (not-false h j l i f)

      go : (1 ≤ e) ⊎ (e < 1) → (e ≤ length F) ⊎ (length F < e)
          → (all (is_false vs) (clause_no F e) ≡ true) ⊎ (all (is_false vs) (clause_no F e) ≡ false) → NumberCases (claims_due n k (vs ∷ due)) (pos e)
      go (inr h) j a = faulty (no_clause {e = e} (inl (omega arith)))
      go (inl h) (inr j) a = faulty (no_clause (inr j))
      go (inl h) (inl j) (inl a) = fits (node_end (record { some = h; most = j; all_false = λ l i. all_sound (is_false vs) a i }))
      go (inl h) (inl j) (inr a) = found h j (all_false (is_false vs) (clause_no F e) a)

  number_cases : (p : Part) (l : ℤ) → NumberCases p l
  number_cases model_due l = go (eqz l (pos vars)) refl
    where
      go : (b : Bool) → eqz l (pos vars) ≡ b → NumberCases model_due l
      go true e = subst (NumberCases model_due) (sym (eqz_sound l (pos vars) e)) (fits model_count)
      go false e = faulty (wrong_count (λ q. never (subst (λ (k : ℤ). eqz k (pos vars) ≡ true) (sym q) (eqz_refl (pos vars))) e))
  number_cases (literals_due from zero vs) (pos n) = fits claim_count
  number_cases (literals_due from zero vs) (negsuc n) = faulty negative_count
  number_cases (literals_due from (suc k) vs) l = go (eqb (var_of l) (suc (length vs))) refl
    where
      go : (b : Bool) → eqb (var_of l) (suc (length vs)) ≡ b → NumberCases (literals_due from (suc k) vs) l
      go true e = fits (model_literal_lem (eqb-true (var_of l) (suc (length vs)) e))
      go false e = faulty (wrong_literal (eqb-false (var_of l) (suc (length vs)) e))
  number_cases (claims_due n zero []) l = faulty behind
  number_cases (claims_due n (suc k) []) l = go (is_no_literal vars l) refl
    where
      go : (b : Bool) → is_no_literal vars l ≡ b → NumberCases (claims_due n (suc k) []) l
      go true e = faulty (wrong_claim (no_literal_sound vars l e))
      go false e = fits (claim (no_literal_false vars l e))
  number_cases (claims_due n k (vs ∷ due)) l = node_cases n k vs due l

  -- the test is the relation
  fault_complete : {p : Part} {l : ℤ} → AtFault vars F p l → is_at_fault vars F p l ≡ true
  fault_complete (wrong_count {l} h) = rw (eqz_other l (pos vars) h)
  fault_complete (wrong_literal {vs = vs} {l = l} h) = rw (ne_eqb (var_of l) (suc (length vs)) h)
  fault_complete negative_count = refl
  fault_complete (wrong_claim {l = l} h) = no_literal_complete vars l h
  fault_complete (no_clause {e = e} {vs = vs} h) = rw (no_clause_false F vs e h)
  fault_complete (not-false {e = e} {vs = vs} h j l i f) = rw (not_false_false F vs e l i f)
  fault_complete (split_set {i = i} {vs = vs} h) = rw (ne_eqb (value_at vs i) 0 h)
  fault_complete behind = refl

  fits_complete : {p : Part} {l : ℤ} → Fits vars F p l → is_at_fault vars F p l ≡ false
  fits_complete model_count = rw (eqz_refl (pos vars))
  fits_complete (model_literal_lem {vs = vs} {l = l} h) = rw (eq-eqb (var_of l) (suc (length vs)) h)
  fits_complete claim_count = refl
  fits_complete (claim {l = l} h) = no_literal_of vars l h
  fits_complete (node_end {vs = vs} w) = rw (names_complete F vs w)
  fits_complete (node_split {i = i} {vs = vs} z) = rw (eq-eqb (value_at vs i) 0 z)

  -- ---- the model, when it has been read

  data ModelCases (p : Part) : Type 0 where
    failing : (from : ℕ) → Fails vars F p from → ModelCases p
    kept : ((from : ℕ) → Fails vars F p from → ⊥) → ModelCases p

  model_cases : (p : Part) → ModelCases p
  model_cases model_due = kept (λ from f. elim f [ ])
  model_cases (literals_due at zero vs) = go (satisfies vs F) refl
    where
      not_failing : satisfies vs F ≡ true → (from : ℕ) → Fails vars F (literals_due at zero vs) from → ⊥
      not_failing e from (fails h) = never e h

      go : (b : Bool) → satisfies vs F ≡ b → ModelCases (literals_due at zero vs)
      go true e = kept (not_failing e)
      go false e = failing at (fails e)
  model_cases (literals_due at (suc k) vs) = kept (λ from f. elim f [ ])
  model_cases (claims_due n k due) = kept (λ from f. elim f [ ])

  failing_first : {p : Part} {from : ℕ} → Fails vars F p from → first_of (model_rules F p) ≡ some (ClaimsAnswer.Rejected from)
  failing_first (fails h) = rw h

  kept_first : (p : Part) → ((from : ℕ) → Fails vars F p from → ⊥) → first_of (model_rules F p) ≡ none
  kept_first model_due f = refl
  kept_first (literals_due at zero vs) f = go (satisfies vs F) refl
    where
      go : (b : Bool) → satisfies vs F ≡ b → first_of (model_rules F (literals_due at zero vs)) ≡ none
      go true e = rw e
      go false e = absurd (f at (fails e))
  kept_first (literals_due at (suc k) vs) f = refl
  kept_first (claims_due n k due) f = refl

  -- ---- one token: it passes, or stops

  data TokenCases (p : Part) (t : Piece) : Type 0 where
    passes : (l : ℤ) → Token t.bytes l → Fits vars F p l → ((from : ℕ) → Fails vars F (next vars p t.at l) from → ⊥) → TokenCases p t
    stops : (a : ClaimsAnswer) → Stops vars F p t a → TokenCases p t

  token_cases : (p : Part) (t : Piece) → TokenCases p t
  token_cases p t = go (entry_of t.bytes) refl
    where
      model : (l : ℤ) → Token t.bytes l → Fits vars F p l → ModelCases (next vars p t.at l) → TokenCases p t
      model l w f (failing from h) = stops (ClaimsAnswer.Rejected from) (no_model w f h)
      model l w f (kept h) = passes l w f h

      number : (l : ℤ) → Token t.bytes l → NumberCases p l → TokenCases p t
      number l w (fits f) = model l w f (model_cases (next vars p t.at l))
      number l w (faulty f) = stops (ClaimsAnswer.Rejected t.at) (at_fault w f)

      go : (o : Option ℤ) → entry_of t.bytes ≡ o → TokenCases p t
      go none e = stops (ClaimsAnswer.BadToken t.at) (bad_token (λ l w. not_none (entry_complete w) e))
      go (some l) e = number l (entry_sound t.bytes e) (number_cases p l)

  -- ---- all tokens

  -- the first token that stops
  pub record Stopped (p : Part) (ts : List Piece) : Type 0 where
    pub before : List Piece
    pub token : Piece
    pub after : List Piece
    pub part : Part
    pub answer : ClaimsAnswer
    pub tokens : ts ≡ before ++ token ∷ after
    pub passes : Passes vars F p before part
    pub stop : Stops vars F part token answer

  pub data Cases (p : Part) (ts : List Piece) : Type 0 where
    all_pass_lem : (q : Part) → Passes vars F p ts q → Cases p ts
    one_stops : Stopped p ts → Cases p ts

  pub cases : (p : Part) (ts : List Piece) → Cases p ts
  cases p [] = all_pass_lem p passed
  cases p (t ∷ ts) = go (token_cases p t) (λ q. cases q ts)
    where
      later : (l : ℤ) → Token t.bytes l → Fits vars F p l → ((from : ℕ) → Fails vars F (next vars p t.at l) from → ⊥)
          → Cases (next vars p t.at l) ts → Cases p (t ∷ ts)
      later l w f k (all_pass_lem q h) = all_pass_lem q (pass w f k h)
      later l w f k (one_stops d) =
          one_stops (record {
            before = t ∷ d.before;
            token = d.token;
            after = d.after;
            part = d.part;
            answer = d.answer;
            tokens = ap (λ (xs : List Piece). t ∷ xs) d.tokens;
            passes = pass w f k d.passes;
            stop = d.stop;
          })

      go : TokenCases p t → ((q : Part) → Cases q ts) → Cases p (t ∷ ts)
      go (passes l w f k) ih = later l w f k (ih (next vars p t.at l))
      go (stops a h) ih =
          one_stops (record { before = []; token = t; after = ts; part = p; answer = a; tokens = refl; passes = passed; stop = h })

  -- ---- what the judgement is

  module _ (end : ℕ) where
    pub judge_fits : {p : Part} (t : Piece) {l : ℤ} (ts : List Piece) → entry_of t.bytes ≡ some l → Fits vars F p l
        → ((from : ℕ) → Fails vars F (next vars p t.at l) from → ⊥) → judge_parts vars F end p (t ∷ ts) ≡ judge_parts vars F end (next vars p t.at l) ts
    unfolding judge_parts
    judge_fits {p} t {l = l} ts w f k = rw (w, fits_complete f, kept_first (next vars p t.at l) k)

    pub judge_fault : {p : Part} (t : Piece) {l : ℤ} (ts : List Piece) → entry_of t.bytes ≡ some l → AtFault vars F p l
        → judge_parts vars F end p (t ∷ ts) ≡ ClaimsAnswer.Rejected t.at
    unfolding judge_parts
    judge_fault t ts w f = rw (w, fault_complete f)

    pub judge_failing : {p : Part} (t : Piece) {l : ℤ} {from : ℕ} (ts : List Piece) → entry_of t.bytes ≡ some l → Fits vars F p l
        → Fails vars F (next vars p t.at l) from → judge_parts vars F end p (t ∷ ts) ≡ ClaimsAnswer.Rejected from
    unfolding judge_parts
    judge_failing t ts w f h = rw (w, fits_complete f, failing_first h)

    pub judge_malformed : (p : Part) (t : Piece) (ts : List Piece) → entry_of t.bytes ≡ none
        → judge_parts vars F end p (t ∷ ts) ≡ ClaimsAnswer.BadToken t.at
    unfolding judge_parts
    judge_malformed p t ts w = rw w

    judge_passes : {p q : Part} {ts : List Piece} (rest : List Piece) → Passes vars F p ts q
        → judge_parts vars F end p (ts ++ rest) ≡ judge_parts vars F end q rest
    judge_passes rest passed = refl
    judge_passes rest (pass {t = t} {ts = ts} w f k h) = judge_fits t (ts ++ rest) (entry_complete w) f k ∙ judge_passes rest h

    judge_stops : {p : Part} {t : Piece} {a : ClaimsAnswer} (ts : List Piece) → Stops vars F p t a → judge_parts vars F end p (t ∷ ts) ≡ a
    judge_stops {p} {t} ts (bad_token f) = judge_malformed p t ts (entry_none t.bytes f)
    judge_stops {p} {t} ts (at_fault w f) = judge_fault t ts (entry_complete w) f
    judge_stops {p} {t} ts (no_model w f h) = judge_failing t ts (entry_complete w) f h

    judge_ends : {p q : Part} {ts : List Piece} → Passes vars F p ts q → judge_parts vars F end p ts ≡ judge_parts vars F end q []
    judge_ends {p} {ts = ts} h = ap (judge_parts vars F end p) (sym (append-nil ts)) ∙ judge_passes [] h

    pub judge_unfinished : {p : Part} → Unfinished p → judge_parts vars F end p [] ≡ ClaimsAnswer.Rejected end
    unfolding judge_parts
    judge_unfinished no_count = refl
    judge_unfinished no_literal = refl
    judge_unfinished no_claim = refl
    judge_unfinished no_tree = refl

    pub judge_finished : (n : ℕ) → judge_parts vars F end (claims_due n zero []) [] ≡ ClaimsAnswer.Accepted n
    unfolding judge_parts
    judge_finished n = refl

-- ---- what is refused of the formula

module _ (g : ClaimsGiven) where
  abbrev alone : Given
  alone = list_alone g.entries g.vars

  -- where V is not too large it is the list's own
  refusal_of_list : g.vars ≤ max_vars → claims_refusal g ≡ refusal_of alone
  unfolding claims_refusal
  refusal_of_list h = rw (le-ltb max_vars g.vars h) (sym (refusal_lent alone (lent_alone g.entries g.vars h)))

  pub refusal_none : FormulaTaken g → claims_refusal g ≡ none
  refusal_none t = refusal_of_list t.vars_fit ∙ (run_accepted alone).1 t.list

  refusal_many : max_vars < g.vars → claims_refusal g ≡ some Refusal.BadLimits
  unfolding claims_refusal
  refusal_many h = rw (lt-ltb max_vars g.vars h)

  data FormulaCases : Type 0 where
    taken : FormulaTaken g → FormulaCases
    not_taken : (a : Refusal) → ClaimsRefuses g (ClaimsAnswer.Refused a) → FormulaCases

  formula_cases : FormulaCases
  formula_cases = go (le_or_lt g.vars max_vars)
    where
      list : g.vars ≤ max_vars → (o : Option Refusal) → refusal_of alone ≡ o → FormulaCases
      list h none e = taken (record { vars_fit = h; list = (run_accepted alone).0 e })
      list h (some a) e = not_taken a (bad_list h ((run_refused alone a).0 e))

      go : (g.vars ≤ max_vars) ⊎ (max_vars < g.vars) → FormulaCases
      go (inr h) = not_taken Refusal.BadLimits (many_vars h)
      go (inl h) = list h (refusal_of alone) refl

  pub taken_of_none : claims_refusal g ≡ none → FormulaTaken g
  taken_of_none e = go (le_or_lt g.vars max_vars)
    where
      go : (g.vars ≤ max_vars) ⊎ (max_vars < g.vars) → FormulaTaken g
      go (inr h) = absurd (not_none (refusal_many h) e)
      go (inl h) = record { vars_fit = h; list = (run_accepted alone).0 (sym (refusal_of_list h) ∙ e) }

-- ---- the verdict

pub record WholeFile (g : ClaimsGiven) (n : ℕ) : Type 0 where
  pub begun : ClaimsBegun g
  pub passes : Passes g.vars (clauses g.entries) model_due (all_tokens g.text) (claims_due n zero [])

pub data ClaimsVerdict (g : ClaimsGiven) : ClaimsAnswer → Type 0 where
  refuses : {a : ClaimsAnswer} → ClaimsRefuses g a → ClaimsVerdict g a
  accepts : {n : ℕ} → WholeFile g n → ClaimsVerdict g (ClaimsAnswer.Accepted n)

module _ (g : ClaimsGiven) where
  abbrev F : List Clause
  F = clauses g.entries

  answer_taken : FormulaTaken g → claims_answer g ≡ judge_claims g
  unfolding claims_answer
  answer_taken t = ap (λ (o : Option Refusal). claims_answer_if o (judge_claims g)) (refusal_none g t)

  answer_refused : {a : Refusal} → claims_refusal g ≡ some a → claims_answer g ≡ ClaimsAnswer.Refused a
  unfolding claims_answer
  answer_refused e = ap (λ (o : Option Refusal). claims_answer_if o (judge_claims g)) e

  judge_long : max_text < length g.text → judge_claims g ≡ ClaimsAnswer.LongText
  unfolding judge_claims
  judge_long h = rw (lt-ltb max_text (length g.text) h)

  judge_short : length g.text ≤ max_text → judge_claims g ≡ judge_parts g.vars F (length g.text) model_due (all_tokens g.text)
  unfolding judge_claims
  judge_short h = rw (le-ltb max_text (length g.text) h)

  answer_begun : ClaimsBegun g → claims_answer g ≡ judge_parts g.vars F (length g.text) model_due (all_tokens g.text)
  answer_begun b = answer_taken b.taken ∙ judge_short b.text_fits

  answer_of_refuses : {a : ClaimsAnswer} → ClaimsRefuses g a → claims_answer g ≡ a
  answer_of_refuses (many_vars h) = answer_refused (refusal_many g h)
  answer_of_refuses (bad_list {a} h r) = answer_refused (refusal_of_list g h ∙ (run_refused (list_alone g.entries g.vars) a).1 r)
  answer_of_refuses (long_text t h) = answer_taken t ∙ judge_long h
  answer_of_refuses (at_token before t after b e p s) =
      answer_begun b ∙ ap (judge_parts g.vars F (length g.text) model_due) e ∙
      judge_passes g.vars F (length g.text) (t ∷ after) p ∙ judge_stops g.vars F (length g.text) after s
  answer_of_refuses (short_text b p u) =
      answer_begun b ∙ judge_ends g.vars F (length g.text) p ∙ judge_unfinished g.vars F (length g.text) u

  pub answer_of_verdict : {a : ClaimsAnswer} → ClaimsVerdict g a → claims_answer g ≡ a
  answer_of_verdict (refuses r) = answer_of_refuses r
  answer_of_verdict (accepts {n} w) =
      answer_begun w.begun ∙ judge_ends g.vars F (length g.text) w.passes ∙ judge_finished g.vars F (length g.text) n

module _ (g : ClaimsGiven) where
  abbrev Judgement : Type 0
  Judgement = (a : ClaimsAnswer) × ClaimsVerdict g a

  verdict_of_end : ClaimsBegun g → (q : Part) → Passes g.vars (clauses g.entries) model_due (all_tokens g.text) q → Judgement
  verdict_of_end b model_due p = (ClaimsAnswer.Rejected (length g.text), refuses (short_text b p no_count))
  verdict_of_end b (literals_due from k vs) p = (ClaimsAnswer.Rejected (length g.text), refuses (short_text b p no_literal))
  verdict_of_end b (claims_due n zero []) p = (ClaimsAnswer.Accepted n, accepts (record { begun = b; passes = p }))
  verdict_of_end b (claims_due n (suc k) []) p = (ClaimsAnswer.Rejected (length g.text), refuses (short_text b p no_claim))
  verdict_of_end b (claims_due n k (vs ∷ due)) p = (ClaimsAnswer.Rejected (length g.text), refuses (short_text b p no_tree))

  verdict_exists : Judgement
  verdict_exists = formula (formula_cases g)
    where
      tokens : ClaimsBegun g → Cases g.vars (clauses g.entries) model_due (all_tokens g.text) → Judgement
      tokens b (all_pass_lem q p) = verdict_of_end b q p
      tokens b (one_stops d) = (d.answer, refuses (at_token d.before d.token d.after b d.tokens d.passes d.stop))

      size : FormulaTaken g → (length g.text ≤ max_text) ⊎ (max_text < length g.text) → Judgement
      size t (inr h) = (ClaimsAnswer.LongText, refuses (long_text t h))
      size t (inl h) = tokens (record { taken = t; text_fits = h }) (cases g.vars (clauses g.entries) model_due (all_tokens g.text))

      formula : FormulaCases g → Judgement
      formula (not_taken a r) = (ClaimsAnswer.Refused a, refuses r)
      formula (taken t) = size t (le_or_lt (length g.text) max_text)

  pub verdict_of_answer : {a : ClaimsAnswer} → claims_answer g ≡ a → ClaimsVerdict g a
  verdict_of_answer e = let v = verdict_exists in subst (ClaimsVerdict g) (sym (answer_of_verdict g v.1) ∙ e) v.1
