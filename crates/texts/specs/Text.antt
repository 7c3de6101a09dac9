-- docs/RULES.md, "The text": bytes, lines, the header line, tokens. A text is split here; specs/Reading.antt judges it.
-- Assumes nothing.
use Rattle.std.specs.Prelude.{Bool, true, false, not, ◌&&◌, ◌||◌, List, [], ◌∷◌, map, ℕ, zero, suc, ◌+◌, ◌-◌, ◌*◌, eqb, leb, ℤ, pos, negsuc, length}
use Rattle.std.proofs.Math.Option.{Option, none, some}
use Rattle.rules.specs.Lists.{all, keep, cut, joined, eqs}

-- ---- bytes

abbrev pub is_lf : ℕ → Bool
is_lf b = eqb b 10

-- between the words of the header: space, tab
abbrev pub is_gap : ℕ → Bool
is_gap b = eqb b 32 || eqb b 9

-- space, tab, CR, LF
abbrev pub is_blank : ℕ → Bool
is_blank b = is_gap b || (eqb b 13 || is_lf b)

abbrev pub is_digit : ℕ → Bool
is_digit b = leb 48 b && leb b 57

abbrev pub is_empty : List ℕ → Bool
is_empty [] = true
is_empty (b ∷ bs) = false

-- ---- numerals: 1 to 9 digits, leading zeros are allowed

abbrev pub is_numeral : List ℕ → Bool
is_numeral ds = all is_digit ds && (leb 1 (length ds) && leb (length ds) 9)

abbrev pub value_from : ℕ → List ℕ → ℕ
value_from n [] = n
value_from n (d ∷ ds) = value_from (10 * n + (d - 48)) ds

-- the number that digits say
unfoldable pub numeral : List ℕ → ℕ
numeral ds = value_from 0 ds

-- ---- pieces of the text, each with its place: the index of its first byte, from 0

pub record Piece : Type 0 where
  pub at : ℕ
  pub bytes : List ℕ

-- pieces that follow each other, one byte between two of them
abbrev pub placed_from : ℕ → List (List ℕ) → List Piece
placed_from at [] = []
placed_from at (bs ∷ bss) = record { at = at; bytes = bs } ∷ placed_from (at + length bs + 1) bss

-- a line ends at LF or at the end of the text
unfoldable pub lines_of : List ℕ → List Piece
lines_of text = placed_from 0 (cut is_lf text)

-- ---- the lines before the header: blanks, or a first byte `c`

abbrev pub is_comment : List ℕ → Bool
is_comment [] = false
is_comment (b ∷ bs) = eqb b 99

abbrev pub is_skipped : Piece → Bool
is_skipped line = is_comment line.bytes || all is_blank line.bytes

-- ---- the header line: `p`, `cnf`, V and C, from the line's first byte on, spaces or tabs between, blanks behind

pub record Sizes : Type 0 where
  pub vars : ℕ
  pub clauses : ℕ

abbrev pub trim_if : Bool → ℕ → List ℕ → List ℕ
trim_if true b [] = []
trim_if true b (x ∷ xs) = b ∷ x ∷ xs
trim_if false b bs = b ∷ bs

-- a line less the blanks behind
abbrev pub trimmed : List ℕ → List ℕ
trimmed [] = []
trimmed (b ∷ bs) = trim_if (is_blank b) b (trimmed bs)

abbrev pub sizes_if : Bool → List ℕ → List ℕ → Option Sizes
sizes_if true v c = some (record { vars = numeral v; clauses = numeral c })
sizes_if false v c = none

-- the four words, and no word less or more
abbrev pub sizes_of : List (List ℕ) → Option Sizes
sizes_of [] = none
sizes_of (p ∷ []) = none
sizes_of (p ∷ cnf ∷ []) = none
sizes_of (p ∷ cnf ∷ v ∷ []) = none
sizes_of (p ∷ cnf ∷ v ∷ c ∷ []) =
    sizes_if (eqs p (112 ∷ []) && (eqs cnf (99 ∷ 110 ∷ 102 ∷ []) && (is_numeral v && is_numeral c))) v c
sizes_of (p ∷ cnf ∷ v ∷ c ∷ w ∷ ws) = none

-- the words between gaps: the first one starts at the line's first byte, so an empty piece before it counts as a word
abbrev pub words_of : List (List ℕ) → List (List ℕ)
words_of [] = []
words_of (w ∷ ws) = w ∷ keep (λ v. not (is_empty v)) ws

unfoldable pub header_of : List ℕ → Option Sizes
header_of line = sizes_of (words_of (cut is_gap (trimmed line)))

-- ---- behind the header line: the tokens of the lines that are no comments

-- a token is a maximal run of bytes that are no blanks
abbrev pub tokens_in : Piece → List Piece
tokens_in line = keep (λ t. not (is_empty t.bytes)) (placed_from line.at (cut is_blank line.bytes))

-- from within a line on: its rest, and each later line whose first byte is not `c`
abbrev pub lines_read : List Piece → List Piece
lines_read [] = []
lines_read (line ∷ lines) = line ∷ keep (λ l. not (is_comment l.bytes)) lines

-- the tokens from within a line on, whose rest begins at the place `at`
unfoldable pub tokens_from : ℕ → List ℕ → List Piece
tokens_from at text = joined (map tokens_in (lines_read (placed_from at (cut is_lf text))))

-- the token that may close a text
abbrev pub is_percent : List ℕ → Bool
is_percent w = eqs w (37 ∷ [])

-- ---- tokens: an optional `-` and 1 to 9 digits; a minus before zeros alone is malformed

abbrev pub negative_of : ℕ → Option ℤ
negative_of zero = none
negative_of (suc n) = some (negsuc n)

abbrev pub entry_if : Bool → Option ℤ → Option ℤ
entry_if true o = o
entry_if false o = none

abbrev pub signed_if : Bool → ℕ → List ℕ → Option ℤ
signed_if true b bs = entry_if (is_numeral bs) (negative_of (numeral bs))
signed_if false b bs = entry_if (is_numeral (b ∷ bs)) (some (pos (numeral (b ∷ bs))))

-- the entry that a token says, if it is well formed
unfoldable pub entry_of : List ℕ → Option ℤ
entry_of [] = none
entry_of (b ∷ bs) = signed_if (eqb b 45) b bs
