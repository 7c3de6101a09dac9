-- docs/RULES.md, "Claims": the judgement of a file from left to right, and what is answered. Assumes nothing.
use Rattle.std.specs.Prelude.{◌≡◌, Bool, true, false, not, ◌&&◌, List, [], ◌∷◌, ◌++◌, ℕ, zero, suc, eqb, leb, ltb, ℤ, pos, negsuc, length, set}
use Rattle.std.proofs.Math.Option.{Option, none, some}
use Rattle.rules.specs.declared.Refusal.{Refusal}
use Rattle.rules.specs.declared.ClaimsAnswer.{ClaimsAnswer}
use Rattle.rules.specs.Lists.{all, eqz, Check, check, first_of}
use Rattle.rules.specs.Numbers.{max_text, max_vars}
use Rattle.rules.specs.Meaning.{Clause, Values, var_of, clauses, value_at, true_byte, satisfies}
use Rattle.texts.specs.Text.{Piece, entry_of}
use Rattle.rules.specs.Held.{is_no_literal}
use Rattle.rules.specs.Answer.{list_rules}
use Rattle.texts.specs.Tokens.{all_tokens}
use Rattle.texts.specs.Claims.{clause_no, is_false, against}

-- ---- the parts of a file: what has been read, and what is due

pub data Part : Type 0 where
  -- the model's count
  model_due : Part
  -- behind that count, which stood at a place, so many literals behind those whose values were read; the number of claims, if none
  literals_due : ℕ → ℕ → Values → Part
  -- of so many claims, so many behind those read; before them a tree for each of some values, in this order
  claims_due : ℕ → ℕ → List Values → Part

-- the trees that are due behind the number of a tree: none behind an end; behind a split that for false, then that for true
abbrev pub subtrees : Values → ℤ → List Values
subtrees vs (pos n) = []
subtrees vs (negsuc i) = set vs i 1 ∷ set vs i 2 ∷ []

-- what is due behind a claim, where so many are due
abbrev pub next_claim : ℕ → ℕ → ℕ → ℤ → Part
next_claim vars n zero l = claims_due n zero []
next_claim vars n (suc k) l = claims_due n k (against vars l ∷ [])

-- what is due behind a number, which stands at a place
abbrev pub next : ℕ → Part → ℕ → ℤ → Part
next vars model_due at l = literals_due at vars []
next vars (literals_due from zero vs) at l = claims_due (var_of l) (var_of l) []
next vars (literals_due from (suc k) vs) at l = literals_due from k (vs ++ true_byte l ∷ [])
next vars (claims_due n k []) at l = next_claim vars n k l
next vars (claims_due n k (vs ∷ due)) at l = claims_due n k (subtrees vs l ++ due)

-- ---- a number at fault

abbrev pub is_negative : ℤ → Bool
is_negative (pos n) = false
is_negative (negsuc n) = true

-- an end, all literals of whose clause are false; a split on a variable that is not set
abbrev pub is_node : List Clause → Values → ℤ → Bool
is_node F vs (pos n) = leb 1 n && (leb n (length F) && all (is_false vs) (clause_no F n))
is_node F vs (negsuc i) = eqb (value_at vs i) 0

-- behind the last claim no number may stand
abbrev pub is_no_claim : ℕ → ℕ → ℤ → Bool
is_no_claim vars zero l = true
is_no_claim vars (suc k) l = is_no_literal vars l

abbrev pub is_at_fault : ℕ → List Clause → Part → ℤ → Bool
is_at_fault vars F model_due l = not (eqz l (pos vars))
is_at_fault vars F (literals_due from zero vs) l = is_negative l
is_at_fault vars F (literals_due from (suc k) vs) l = not (eqb (var_of l) (suc (length vs)))
is_at_fault vars F (claims_due n k []) l = is_no_claim vars k l
is_at_fault vars F (claims_due n k (vs ∷ due)) l = not (is_node F vs l)

-- when the model has been read it is judged: a failing clause has the place of the model's count
abbrev pub model_rules : List Clause → Part → List (Check ClaimsAnswer)
model_rules F model_due = []
model_rules F (literals_due from zero vs) = check (not (satisfies vs F)) (ClaimsAnswer.Rejected from) ∷ []
model_rules F (literals_due from (suc k) vs) = []
model_rules F (claims_due n k due) = []

abbrev pub number_rules : ℕ → List Clause → Part → ℕ → ℤ → List (Check ClaimsAnswer)
number_rules vars F p at l = check (is_at_fault vars F p l) (ClaimsAnswer.Rejected at) ∷ model_rules F (next vars p at l)

-- ---- the judgement

abbrev pub unless : Option ClaimsAnswer → ClaimsAnswer → ClaimsAnswer
unless none rest = rest
unless (some a) rest = a

abbrev pub judge_claims_end : ℕ → ℕ → ℕ → ClaimsAnswer
judge_claims_end end n zero = ClaimsAnswer.Accepted n
judge_claims_end end n (suc k) = ClaimsAnswer.Rejected end

-- where the text ends: nothing may be due
abbrev pub judge_end : ℕ → Part → ClaimsAnswer
judge_end end model_due = ClaimsAnswer.Rejected end
judge_end end (literals_due from k vs) = ClaimsAnswer.Rejected end
judge_end end (claims_due n k []) = judge_claims_end end n k
judge_end end (claims_due n k (vs ∷ due)) = ClaimsAnswer.Rejected end

-- the order at one token is 5, 17
abbrev pub judge_token : Option ℤ → ℕ → List Clause → Part → ℕ → (Part → ClaimsAnswer) → ClaimsAnswer
judge_token none vars F p at rest = ClaimsAnswer.BadToken at
judge_token (some l) vars F p at rest = unless (first_of (number_rules vars F p at l)) (rest (next vars p at l))

unfoldable pub judge_parts : ℕ → List Clause → ℕ → Part → List Piece → ClaimsAnswer
judge_parts vars F end p [] = judge_end end p
judge_parts vars F end p (t ∷ ts) = judge_token (entry_of t.bytes) vars F p t.at (λ q. judge_parts vars F end q ts)

-- ---- the whole: what is refused of the formula, 10 for V alone, 11, 12; then 2; then left to right

pub record ClaimsGiven : Type 0 where
  pub entries : List ℤ
  pub vars : ℕ
  pub text : List ℕ

abbrev pub claims_given : List ℤ → ℕ → List ℕ → ClaimsGiven
claims_given es vars text = record { entries = es; vars = vars; text = text }

unfoldable pub claims_refusal : ClaimsGiven → Option Refusal
claims_refusal g = first_of (check (ltb max_vars g.vars) Refusal.BadLimits ∷ list_rules g.entries g.vars)

unfoldable pub judge_claims : ClaimsGiven → ClaimsAnswer
judge_claims g =
    unless (first_of (check (ltb max_text (length g.text)) ClaimsAnswer.LongText ∷ []))
    (judge_parts g.vars (clauses g.entries) (length g.text) model_due (all_tokens g.text))

abbrev pub claims_answer_if : Option Refusal → ClaimsAnswer → ClaimsAnswer
claims_answer_if none a = a
claims_answer_if (some r) a = ClaimsAnswer.Refused r

unfoldable pub claims_answer : ClaimsGiven → ClaimsAnswer
claims_answer g = claims_answer_if (claims_refusal g) (judge_claims g)

-- what is promised of the result
pub record Checks (g : ClaimsGiven) (result : ClaimsAnswer) : Type 0 where
  pub result_is : result ≡ claims_answer g
