-- What the answers of src/number.rt, src/header.rt and src/token.rt stand for: a numeral, a header and an entry of rules.
-- Assumes nothing.
use Rattle.std.specs.Prelude.{◌≡◌, Bool, true, false, List, ℕ, zero, suc, ◌≤◌, ℤ, pos, negsuc, neg_ℤ, length, take, Option, None, Some}
use Rattle.std.proofs.Math.Option.{Option as Maybe, none, some}
use Rattle.texts.specs.Text.{Sizes, is_numeral, numeral, trimmed}
use Rattle.reader.specs.declared.header.Header.{Header}
use Rattle.reader.specs.declared.token.Entry.{Entry}

-- ---- numerals

abbrev pub number_if : Bool → ℕ → Option ℕ
number_if true n = Some n
number_if false n = None

abbrev pub number_of : List ℕ → Option ℕ
number_of word = number_if (is_numeral word) (numeral word)

-- ---- the header line

-- V and C as rules has them
abbrev pub sizes : Header → Sizes
sizes h = record { vars = h.vars; clauses = h.clauses }

abbrev pub header_line : Maybe Sizes → Option Header
header_line none = None
header_line (some s) = Some (record { vars = s.vars; clauses = s.clauses })

-- the first n bytes are the line less the blanks behind
pub record Trims (line : List ℕ) (n : ℕ) : Type 0 where
  pub within : n ≤ length line
  pub is : take n line ≡ trimmed line

-- ---- tokens

abbrev pub signed_value : Bool → ℕ → ℤ
signed_value true n = neg_ℤ (pos n)
signed_value false n = pos n

-- nine digits
abbrev pub max_number : ℕ
max_number = 999999999

-- the entry as the list holds it
abbrev pub value_of : Entry → ℤ
value_of e = signed_value e.minus e.number

abbrev pub token_of : Maybe ℤ → Option Entry
token_of none = None
token_of (some (pos n)) = Some (record { minus = false; number = n })
token_of (some (negsuc n)) = Some (record { minus = true; number = suc n })

-- a number with a minus or without: a minus before 0 is malformed
abbrev pub signed_token : Bool → Option ℕ → Option Entry
signed_token minus None = None
signed_token false (Some n) = Some (record { minus = false; number = n })
signed_token true (Some zero) = None
signed_token true (Some (suc n)) = Some (record { minus = true; number = suc n })
