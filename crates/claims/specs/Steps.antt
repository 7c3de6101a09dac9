-- What the steps of src/ promise: each leads the judgement of `rules` (specs/ClaimsReading) from one part of the file to another, or has the
-- answer. Assumes nothing.
use Rattle.std.specs.Prelude.{◌≡◌, Bool, true, false, not, List, [], ◌∷◌, ℕ, suc, ◌≤◌, eqb, ℤ, pos, length, set, Result, Ok, Err}
use Rattle.std.proofs.Math.Option.{some}
use Rattle.rules.specs.declared.ClaimsAnswer.{ClaimsAnswer}
use Rattle.rules.specs.Lists.{eqz, first_of}
use Rattle.rules.specs.Numbers.{max_clauses}
use Rattle.rules.specs.Meaning.{Clause, Values, var_of, clauses, value_at}
use Rattle.texts.specs.Text.{entry_of}
use Rattle.rules.specs.Run.{blank}
use Rattle.rules.specs.Held.{is_no_literal}
use Rattle.texts.specs.ClaimsReading.{Part, model_due, literals_due, claims_due, next, is_negative, is_at_fault, model_rules, unless, judge_parts}
use Rattle.texts.specs.ClaimsRefusals.{Unfinished}
use Rattle.reader.specs.declared.next.Spot.{Spot}
use Rattle.reader.specs.declared.token.Entry.{Entry}
use Rattle.reader.specs.Words.{value_of}
use Rattle.reader.specs.Next.{tokens_at, bytes_at, Next}
use Rattle.formula.specs.Starts.{starts_of}
use Rattle.formula.specs.Formula.{Formula}
use Rattle.claims.specs.declared.taken.Due.{Due}
use Rattle.claims.specs.declared.tree.Node.{Node}

-- the judgement of a text from a place on, where a part is due
abbrev pub judge_at : ℕ → List Clause → List ℕ → Part → ℕ → ClaimsAnswer
judge_at vars F text p at = judge_parts vars F (length text) p (tokens_at text at)

-- the same where the part has just been reached: a model that has been read is judged first
abbrev pub judge_from : ℕ → List Clause → List ℕ → Part → ℕ → ClaimsAnswer
judge_from vars F text p at = unless (first_of (model_rules F p)) (judge_at vars F text p at)

-- a place where the judgement goes on, or its answer
abbrev pub Step : Type 0
Step = Result ℕ ClaimsAnswer

-- from one part to another
pub data Leads (vars : ℕ) (F : List Clause) (text : List ℕ) (p : Part) (at : ℕ) (q : Part) : Step → Type 0 where
  on : {to : ℕ} → judge_from vars F text p at ≡ judge_from vars F text q to → Leads vars F text p at q (Ok to)
  stop : {a : ClaimsAnswer} → judge_from vars F text p at ≡ a → Leads vars F text p at q (Err a)

-- ---- a number

-- no number is 0 with a minus
pub record SignFits (e : Entry) : Type 0 where
  pub some : e.minus ≡ true → 1 ≤ e.number

-- the number that is due, or the answer
abbrev pub Number : Type 0
Number = Result Spot ClaimsAnswer

-- the answer, whatever is due; or the number that stands next
pub data NumberDue (text : List ℕ) (at : ℕ) : Number → Type 0 where
  no_number : {a : ClaimsAnswer} → ((vars : ℕ) (F : List Clause) (p : Part) → Unfinished p → judge_at vars F text p at ≡ a) → NumberDue text at (Err a)
  number : {s : Spot} → Next text at s.from s.to → entry_of (bytes_at text s.from s.to) ≡ some (value_of s.entry) → SignFits s.entry
      → NumberDue text at (Ok s)

-- whether a number is at fault, by what is due
abbrev pub is_faulty : Due → ℤ → Bool
is_faulty (Due.Count vars) l = not (eqz l (pos vars))
is_faulty (Due.Literal v) l = not (eqb (var_of l) v)
is_faulty Due.Claims l = is_negative l
is_faulty (Due.Claim vars) l = is_no_literal vars l

-- p is a part where this is due
pub record IsDue (vars : ℕ) (F : List Clause) (p : Part) (due : Due) : Type 0 where
  pub unfinished : Unfinished p
  pub fault : (l : ℤ) → is_at_fault vars F p l ≡ is_faulty due l

-- in each part where this is due: the answer, or the number that leads on
pub data Taken (text : List ℕ) (at : ℕ) (due : Due) : Number → Type 0 where
  stops : {a : ClaimsAnswer} → ((vars : ℕ) (F : List Clause) (p : Part) → IsDue vars F p due → judge_at vars F text p at ≡ a)
      → Taken text at due (Err a)
  takes : {s : Spot}
      → ((vars : ℕ) (F : List Clause) (p : Part) → IsDue vars F p due
      → judge_at vars F text p at ≡ judge_from vars F text (next vars p s.from (value_of s.entry)) s.to)
      → is_faulty due (value_of s.entry) ≡ false → SignFits s.entry → Taken text at due (Ok s)

-- ---- trees

-- the variable at an index is not set
abbrev pub is_unset_at : Values → ℕ → Bool
is_unset_at vs i = eqb (value_at vs i) 0

-- the first number of a tree that is due under vs
pub data NodeDue (F : List Clause) (text : List ℕ) (vs : Values) (at : ℕ) : Result Node ClaimsAnswer → Type 0 where
  node_end : {to : ℕ}
      → ((vars n k : ℕ) (due : List Values) → judge_at vars F text (claims_due n k (vs ∷ due)) at ≡ judge_at vars F text (claims_due n k due) to)
      → NodeDue F text vs at (Ok (Node.End to))
  node_split : {i to : ℕ} → value_at vs i ≡ 0
      → ((vars n k : ℕ) (due : List Values)
      → judge_at vars F text (claims_due n k (vs ∷ due)) at ≡ judge_at vars F text (claims_due n k (set vs i 1 ∷ set vs i 2 ∷ due)) to)
      → NodeDue F text vs at (Ok (Node.Split i to))
  node_stop : {a : ClaimsAnswer} → ((vars n k : ℕ) (due : List Values) → judge_at vars F text (claims_due n k (vs ∷ due)) at ≡ a)
      → NodeDue F text vs at (Err a)

-- a tree that is due under vs, whatever is due behind it
pub record TreeRead (F : List Clause) (text : List ℕ) (vs : Values) (at : ℕ) (result : Step) : Type 0 where
  pub leads : (vars n k : ℕ) (due : List Values) → Leads vars F text (claims_due n k (vs ∷ due)) at (claims_due n k due) result

-- and the values as they were
pub record TreeChecked (F : List Clause) (text : List ℕ) (at : ℕ) (before : Values) (result : Step) (after : Values) : Type 0 where
  pub read : TreeRead F text before at result
  pub same : after ≡ before

-- ---- the model

-- the literals behind a count: where they lead, and their values
pub record LiteralsRead (text : List ℕ) (at vars : ℕ) (result : Step) (after : Values) : Type 0 where
  pub length_is : length after ≡ vars
  pub leads : (F : List Clause) (from : ℕ) → Leads vars F text (literals_due from vars []) at (literals_due from 0 after) result

-- the whole model: the number of claims is due, or the answer
pub data ModelRead (vars : ℕ) (F : List Clause) (text : List ℕ) : Step → Type 0 where
  model_on : {to : ℕ} (from : ℕ) (vs : Values) → judge_at vars F text model_due 0 ≡ judge_at vars F text (literals_due from 0 vs) to
      → ModelRead vars F text (Ok to)
  model_stop : {a : ClaimsAnswer} → judge_at vars F text model_due 0 ≡ a → ModelRead vars F text (Err a)

-- ---- claims

-- a formula as code has it, and no variable set
pub record Unset (es : List ℤ) (starts : List ℕ) (vs : Values) : Type 0 where
  pub formula : Formula (length vs) es starts
  pub unset : vs ≡ blank (length vs)

-- one of the claims that are due, and the values as they were
pub record ClaimChecked (F : List Clause) (text : List ℕ) (at : ℕ) (before : Values) (result : Step) (after : Values) : Type 0 where
  pub leads : (n k : ℕ) → Leads (length before) F text (claims_due n (suc k) []) at (claims_due n k []) result
  pub same : after ≡ before

-- no claim is due
pub record EndChecked (text : List ℕ) (at n : ℕ) (result : ClaimsAnswer) : Type 0 where
  pub answer_is : (vars : ℕ) (F : List Clause) → judge_at vars F text (claims_due n 0 []) at ≡ result

-- all claims are due
pub record ClaimsChecked (vars : ℕ) (F : List Clause) (text : List ℕ) (at n : ℕ) (result : ClaimsAnswer) : Type 0 where
  pub answer_is : judge_at vars F text (claims_due n n []) at ≡ result

-- their number is due
pub record CountChecked (vars : ℕ) (F : List Clause) (text : List ℕ) (at : ℕ) (result : ClaimsAnswer) : Type 0 where
  pub answer_is : (from : ℕ) (vs : Values) → judge_at vars F text (literals_due from 0 vs) at ≡ result

-- ---- the whole

pub record FileChecked (vars : ℕ) (F : List Clause) (text : List ℕ) (result : ClaimsAnswer) : Type 0 where
  pub answer_is : judge_at vars F text model_due 0 ≡ result

-- a list that no rule refuses
pub record ListTaken (vars : ℕ) (es : List ℤ) : Type 0 where
  pub formula : Formula vars es (starts_of es)
  pub clauses_most : length (clauses es) ≤ max_clauses
