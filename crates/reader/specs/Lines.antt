-- Which line has to be the header (src/line.rt). Assumes nothing.
use Rattle.std.specs.Prelude.{Bool, true, false, ◌||◌, List, [], ◌∷◌, ℕ, ◌+◌, ◌-◌, length, take, drop, Option, None, Some}
use Rattle.rules.specs.Lists.{all}
use Rattle.texts.specs.Text.{Piece, is_blank, is_comment, is_skipped, header_of}
use Rattle.texts.specs.Reading.{Judged, judge_header}

-- a line before the header, by its bytes
abbrev pub skipped : List ℕ → Bool
skipped bs = is_comment bs || all is_blank bs

abbrev pub line_if : Bool → Piece → Option (ℕ × ℕ) → Option (ℕ × ℕ)
line_if true line rest = rest
line_if false line rest = Some (line.at, line.at + length line.bytes)

-- the first of some lines that is not skipped: its first byte, and the byte behind it
abbrev pub first_line : List Piece → Option (ℕ × ℕ)
first_line [] = None
first_line (line ∷ lines) = line_if (is_skipped line) line (first_line lines)

-- the bytes from `from` up to `to`, with their place
abbrev pub piece_of : List ℕ → ℕ → ℕ → Piece
piece_of text from to = record { at = from; bytes = take (to - from) (drop from text) }

-- what the text is if they are the line that has to be the header
abbrev pub judge_line_at : List ℕ → ℕ → ℕ → Judged
judge_line_at text from to = judge_header (header_of (piece_of text from to).bytes) text (piece_of text from to)
