-- When a file of claims is refused or rejected, number by number, as docs/RULES.md, "Claims", says it: in terms of its tokens, and not of
-- how they are read. That an answer is given exactly when its rule here says so is a theorem. Assumes nothing.
use Rattle.std.specs.Prelude.{◌≡◌, ◌≢◌, ◌⊎◌, false, List, [], ◌∷◌, ◌++◌, ℕ, zero, suc, ◌≤◌, ◌<◌, ℤ, pos, negsuc, length}
use Rattle.rules.specs.declared.Refusal.{Refusal}
use Rattle.rules.specs.declared.ClaimsAnswer.{ClaimsAnswer}
use Rattle.rules.specs.Lists.{In}
use Rattle.rules.specs.Numbers.{max_text, max_vars}
use Rattle.rules.specs.Meaning.{Clause, Values, LitUpTo, var_of, clauses, value_at, satisfies}
use Rattle.texts.specs.Text.{Piece}
use Rattle.texts.specs.Grammar.{Token}
use Rattle.rules.specs.RunRefusals.{Accepted, RunRefuses, list_alone}
use Rattle.texts.specs.Tokens.{all_tokens}
use Rattle.texts.specs.Claims.{clause_no, is_false, NamesFalse}
use Rattle.texts.specs.ClaimsReading.{Part, model_due, literals_due, claims_due, next, ClaimsGiven}

-- ---- one number

module _ (vars : ℕ) (F : List Clause) where
  -- a number that is not at fault itself, where something is due
  pub data Fits : Part → ℤ → Type 0 where
    model_count : Fits model_due (pos vars)
    model_literal_lem : {from k : ℕ} {vs : Values} {l : ℤ} → var_of l ≡ suc (length vs) → Fits (literals_due from (suc k) vs) l
    claim_count : {from n : ℕ} {vs : Values} → Fits (literals_due from zero vs) (pos n)
    claim : {n k : ℕ} {l : ℤ} → LitUpTo vars l → Fits (claims_due n (suc k) []) l
    node_end : {n k e : ℕ} {vs : Values} {due : List Values} → NamesFalse F vs e → Fits (claims_due n k (vs ∷ due)) (pos e)
    node_split : {n k i : ℕ} {vs : Values} {due : List Values} → value_at vs i ≡ 0 → Fits (claims_due n k (vs ∷ due)) (negsuc i)

  pub data AtFault : Part → ℤ → Type 0 where
    -- the model's count is not V; a literal is not of its variable
    wrong_count : {l : ℤ} → l ≢ pos vars → AtFault model_due l
    wrong_literal : {from k : ℕ} {vs : Values} {l : ℤ} → var_of l ≢ suc (length vs) → AtFault (literals_due from (suc k) vs) l
    -- the number of claims is negative
    negative_count : {from n : ℕ} {vs : Values} → AtFault (literals_due from zero vs) (negsuc n)
    -- a claim is 0 or above V
    wrong_claim : {n k : ℕ} {l : ℤ} → (var_of l ≡ 0) ⊎ (vars < var_of l) → AtFault (claims_due n (suc k) []) l
    -- an end names no clause, or one with a literal that is not false
    no_clause : {n k e : ℕ} {vs : Values} {due : List Values} → (e ≡ 0) ⊎ (length F < e) → AtFault (claims_due n k (vs ∷ due)) (pos e)
    not-false : {n k e : ℕ} {vs : Values} {due : List Values} → 1 ≤ e → e ≤ length F → (l : ℤ) → In l (clause_no F e) → is_false vs l ≡ false
        → AtFault (claims_due n k (vs ∷ due)) (pos e)
    -- a split is on a variable that is set, or above V
    split_set : {n k i : ℕ} {vs : Values} {due : List Values} → value_at vs i ≢ 0 → AtFault (claims_due n k (vs ∷ due)) (negsuc i)
    -- a number behind the last claim
    behind : {n : ℕ} {l : ℤ} → AtFault (claims_due n zero []) l

  -- the model has been read, and fails a clause; its count stood at a place
  pub data Fails : Part → ℕ → Type 0 where
    fails : {from : ℕ} {vs : Values} → satisfies vs F ≡ false → Fails (literals_due from zero vs) from

  -- ---- tokens with nothing to refuse or reject, from one part to another

  pub data Passes : Part → List Piece → Part → Type 0 where
    passed : {p : Part} → Passes p [] p
    pass : {p q : Part} {t : Piece} {ts : List Piece} {l : ℤ} → Token t.bytes l → Fits p l
        → ((from : ℕ) → Fails (next vars p t.at l) from → ⊥) → Passes (next vars p t.at l) ts q → Passes p (t ∷ ts) q

  -- a token at which the judgement ends
  pub data Stops : Part → Piece → ClaimsAnswer → Type 0 where
    -- 5
    bad_token : {p : Part} {t : Piece} → ((l : ℤ) → Token t.bytes l → ⊥) → Stops p t (ClaimsAnswer.BadToken t.at)
    -- 17: a number at fault, at its own place
    at_fault : {p : Part} {t : Piece} {l : ℤ} → Token t.bytes l → AtFault p l → Stops p t (ClaimsAnswer.Rejected t.at)
    -- 17: with this number the model has been read, and it fails a clause: the place of the model's count
    no_model : {p : Part} {t : Piece} {l : ℤ} {from : ℕ} → Token t.bytes l → Fits p l → Fails (next vars p t.at l) from
        → Stops p t (ClaimsAnswer.Rejected from)

-- something is still due
pub data Unfinished : Part → Type 0 where
  no_count : Unfinished model_due
  no_literal : {from k : ℕ} {vs : Values} → Unfinished (literals_due from k vs)
  no_claim : {n k : ℕ} → Unfinished (claims_due n (suc k) [])
  no_tree : {n k : ℕ} {vs : Values} {due : List Values} → Unfinished (claims_due n k (vs ∷ due))

-- ---- the whole

-- neither 10 nor 11 nor 12
pub record FormulaTaken (g : ClaimsGiven) : Type 0 where
  pub vars_fit : g.vars ≤ max_vars
  pub list : Accepted (list_alone g.entries g.vars)

-- nor 2
pub record ClaimsBegun (g : ClaimsGiven) : Type 0 where
  pub taken : FormulaTaken g
  pub text_fits : length g.text ≤ max_text

pub data ClaimsRefuses (g : ClaimsGiven) : ClaimsAnswer → Type 0 where
  -- 10
  many_vars : max_vars < g.vars → ClaimsRefuses g (ClaimsAnswer.Refused Refusal.BadLimits)
  -- 11 and 12
  bad_list : {a : Refusal} → g.vars ≤ max_vars → RunRefuses (list_alone g.entries g.vars) a → ClaimsRefuses g (ClaimsAnswer.Refused a)
  -- 2
  long_text : FormulaTaken g → max_text < length g.text → ClaimsRefuses g ClaimsAnswer.LongText
  -- 5 and 17, at the first token with something to refuse or reject
  at_token : {a : ClaimsAnswer} {p : Part} (before : List Piece) (t : Piece) (after : List Piece) → ClaimsBegun g
      → all_tokens g.text ≡ before ++ t ∷ after → Passes g.vars (clauses g.entries) model_due before p
      → Stops g.vars (clauses g.entries) p t a → ClaimsRefuses g a
  -- 17: numbers are missing
  short_text : {p : Part} → ClaimsBegun g → Passes g.vars (clauses g.entries) model_due (all_tokens g.text) p → Unfinished p
      → ClaimsRefuses g (ClaimsAnswer.Rejected (length g.text))
