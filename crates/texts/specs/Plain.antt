-- Numbers in decimal, and a formula printed plainly: the header, then one clause a line. Assumes nothing.
use Rattle.std.specs.Prelude.{Bool, true, false, List, [], ◌∷◌, ◌++◌, map, ℕ, zero, suc, ◌+◌, ◌/◌, ◌%◌, ◌≤◌, ltb, ℤ, pos, negsuc, length}
use Rattle.rules.specs.Lists.{In, joined}
use Rattle.rules.specs.Numbers.{max_vars, max_clauses, max_entries}
use Rattle.rules.specs.Meaning.{Clause, LitUpTo}

abbrev pub digit : ℕ → ℕ
digit n = 48 + n

abbrev pub last_digit : Bool → ℕ → (ℕ → List ℕ) → List ℕ
last_digit true n more = digit n ∷ []
last_digit false n more = more (n / 10) ++ (digit (n % 10) ∷ [])

-- with at most k digits in front of the last one
unfoldable pub decimal_in : ℕ → ℕ → List ℕ
decimal_in zero n = digit (n % 10) ∷ []
decimal_in (suc k) n = last_digit (ltb n 10) n (λ m. decimal_in k m)

-- the digits of n, with no zero in front
unfoldable pub decimal : ℕ → List ℕ
decimal n = decimal_in n n

abbrev pub plain_entry : ℤ → List ℕ
plain_entry (pos n) = decimal n
plain_entry (negsuc n) = 45 ∷ decimal (suc n)

-- each literal and a space, then 0 and LF
abbrev pub plain_clause : Clause → List ℕ
plain_clause [] = 48 ∷ 10 ∷ []
plain_clause (l ∷ cl) = plain_entry l ++ 32 ∷ plain_clause cl

abbrev pub plain_header : ℕ → ℕ → List ℕ
plain_header vars clauses = 112 ∷ 32 ∷ 99 ∷ 110 ∷ 102 ∷ 32 ∷ decimal vars ++ 32 ∷ decimal clauses

unfoldable pub plain : ℕ → List Clause → List ℕ
plain vars F = plain_header vars (length F) ++ 10 ∷ joined (map plain_clause F)

-- the entry list of a formula: each clause, then 0
abbrev pub entries_of : List Clause → List ℤ
entries_of [] = []
entries_of (cl ∷ cls) = cl ++ pos 0 ∷ entries_of cls

-- a formula within the sizes
pub record Within (vars : ℕ) (F : List Clause) : Type 0 where
  pub vars_fit : vars ≤ max_vars
  pub clauses_fit : length F ≤ max_clauses
  pub entries_fit : length (entries_of F) ≤ max_entries
  pub literals : (cl : Clause) → In cl F → (l : ℤ) → In l cl → LitUpTo vars l
