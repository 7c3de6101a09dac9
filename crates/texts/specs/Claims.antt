-- docs/RULES.md, "Claims": a tree and when it holds, a claim, and the numbers of a file. What claims mean, and not how they are checked:
-- specs/ClaimsReading checks; that both agree is a theorem. Assumes nothing.
use Rattle.std.specs.Prelude.{◌≡◌, Bool, true, List, [], ◌∷◌, ◌++◌, map, ℕ, pred, ◌≤◌, eqb, ℤ, pos, negsuc, length, get_or, set}
use Rattle.rules.specs.Lists.{In, joined}
use Rattle.rules.specs.Numbers.{max_text}
use Rattle.rules.specs.Meaning.{Clause, Values, LitUpTo, Model, negated, index_of, value_at, false_byte, assign}
use Rattle.texts.specs.Plain.{plain_entry}
use Rattle.rules.specs.Run.{blank}
use Rattle.rules.specs.Witness.{literals_from}
use Rattle.texts.specs.Tokens.{Tokens}

-- ---- trees

-- an end names a clause, by its number from 1; a split names the variable at an index, and has the tree for false and then the tree
-- for true
pub data Tree : Type 0 where
  end : ℕ → Tree
  split : ℕ → Tree → Tree → Tree

-- clause n of a formula, from 1
abbrev pub clause_no : List Clause → ℕ → Clause
clause_no F n = get_or F (pred n) []

abbrev pub is_false : Values → ℤ → Bool
is_false vs l = eqb (value_at vs (index_of l)) (false_byte l)

-- n names a clause of F whose literals are all false
pub record NamesFalse (F : List Clause) (vs : Values) (n : ℕ) : Type 0 where
  pub some : 1 ≤ n
  pub most : n ≤ length F
  pub all_false : (l : ℤ) → In l (clause_no F n) → is_false vs l ≡ true

-- under the values vs, every end names a clause whose literals are all false under them and the splits above it; no split is on a
-- variable that is set, by vs or by a split above. A variable above V counts as set
pub data Holds (F : List Clause) : Values → Tree → Type 0 where
  by_end : {vs : Values} {n : ℕ} → NamesFalse F vs n → Holds F vs (end n)
  by_split : {vs : Values} {i : ℕ} {off on : Tree} → value_at vs i ≡ 0 → Holds F (set vs i 1) off → Holds F (set vs i 2) on
      → Holds F vs (split i off on)

-- ---- claims

pub record Claim : Type 0 where
  pub literal : ℤ
  pub tree : Tree

-- the values that a claim's tree begins with: its negation alone
abbrev pub against : ℕ → ℤ → Values
against vars l = assign (blank vars) (negated l)

-- a literal of a variable from 1 to V, with a tree that holds under its negation
pub record Claimed (vars : ℕ) (F : List Clause) (c : Claim) : Type 0 where
  pub up_to : LitUpTo vars c.literal
  pub holds : Holds F (against vars c.literal) c.tree

-- ---- the numbers of a file: two sections, each after its count

-- a split with a minus, an end without
abbrev pub tree_numbers : Tree → List ℤ
tree_numbers (end n) = pos n ∷ []
tree_numbers (split i off on) = negsuc i ∷ (tree_numbers off ++ tree_numbers on)

abbrev pub claim_numbers : Claim → List ℤ
claim_numbers c = c.literal ∷ tree_numbers c.tree

abbrev pub file_numbers : Values → List Claim → List ℤ
file_numbers m cs = pos (length m) ∷ (literals_from 0 m ++ pos (length cs) ∷ joined (map claim_numbers cs))

-- a text that says a model and claims that hold
pub record ClaimsText (vars : ℕ) (F : List Clause) (text : List ℕ) (m : Values) (cs : List Claim) : Type 0 where
  pub says : Tokens text (file_numbers m cs)
  pub is-model : Model vars F m
  pub claimed : (c : Claim) → In c cs → Claimed vars F c
  pub text_fits : length text ≤ max_text

-- a text that says a model and n claims that hold
pub record ClaimsFile (vars : ℕ) (F : List Clause) (text : List ℕ) (n : ℕ) : Type 0 where
  pub model : Values
  pub claims : List Claim
  pub number : length claims ≡ n
  pub text_is : ClaimsText vars F text model claims

-- ---- a file written plainly: each number, and a space

abbrev pub plain_numbers : List ℤ → List ℕ
plain_numbers [] = []
plain_numbers (l ∷ ls) = plain_entry l ++ 32 ∷ plain_numbers ls

abbrev pub plain_claims : Values → List Claim → List ℕ
plain_claims m cs = plain_numbers (file_numbers m cs)
