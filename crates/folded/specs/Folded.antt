-- The text of a formula with forced literals folded in (docs/RULES.md, "The shorter file"), as code puts it: piece by piece. The forced literals
-- are values, a byte a variable: 0 not forced, 1 forced false, 2 forced true. Assumes nothing.
use Rattle.std.specs.Prelude.{Bool, true, false, not, ◌&&◌, List, [], ◌∷◌, ◌++◌, ℕ, zero, suc, pred, ◌+◌, ◌≤◌, eqb, ℤ, length, take}
use Rattle.rules.specs.Lists.{any, count, eqz, pieces}
use Rattle.rules.specs.Meaning.{Clause, Values, is_unset, has_true, clauses}
use Rattle.texts.specs.Plain.{plain_entry, plain_header}
use Rattle.texts.specs.ModelLine.{signed}
use Rattle.formula.specs.Formula.{Formula}
use Rattle.buffers.specs.Put.{Room}

-- ---- a clause that holds no forced literal

-- a literal stays if neither it nor its negation is forced, and it does not stand among those before it
abbrev pub stays : Values → Clause → ℤ → Bool
stays vs before l = is_unset vs l && not (any (eqz l) before)

-- a literal and a space, if it stays
abbrev pub literal_if : Bool → ℤ → List ℕ
literal_if true l = plain_entry l ++ 32 ∷ []
literal_if false l = []

-- literal n of a clause, from 1
abbrev pub literal_piece : Values → Clause → ℕ → ℤ → List ℕ
literal_piece vs cl n l = literal_if (stays vs (take (pred n) cl) l) l

abbrev pub clause_text : Values → Clause → List ℕ
clause_text vs cl = pieces (literal_piece vs cl) 1 cl ++ 48 ∷ 10 ∷ []

-- ---- all clauses

-- a clause that holds a forced literal goes
abbrev pub line_unless : Bool → List ℕ → List ℕ
line_unless true line = []
line_unless false line = line

abbrev pub other_line : Values → ℕ → Clause → List ℕ
other_line vs n cl = line_unless (has_true vs cl) (clause_text vs cl)

abbrev pub is_other : Values → Clause → Bool
is_other vs cl = not (has_true vs cl)

-- ---- the forced literals

-- variable n as a clause of its own, if it is forced
abbrev pub unit_line : ℕ → ℕ → List ℕ
unit_line n zero = []
unit_line n (suc b) = signed (eqb (suc b) 1) n ++ 32 ∷ 48 ∷ 10 ∷ []

-- ---- the whole

abbrev pub header_text : ℕ → ℕ → List ℕ
header_text vars n = plain_header vars n ++ 10 ∷ []

abbrev pub folded_text : Values → List Clause → ℕ → List ℕ
folded_text vs F forced = header_text (length vs) (forced + count (is_other vs) F) ++ (pieces unit_line 1 vs ++ pieces (other_line vs) 1 F)

-- ---- what is required

-- clause n of a formula
pub record ClauseOf (vs : Values) (es : List ℤ) (starts : List ℕ) (n : ℕ) : Type 0 where
  pub formula : Formula (length vs) es starts
  pub some : 1 ≤ n
  pub most : n ≤ length (clauses es)

-- a formula, and room for its text
pub record FoldedReady (vs : Values) (es : List ℤ) (starts : List ℕ) (forced : ℕ) (out : List ℕ) : Type 0 where
  pub formula : Formula (length vs) es starts
  pub forced_fit : forced ≤ 256
  pub room : Room 0 (folded_text vs (clauses es) forced) out
