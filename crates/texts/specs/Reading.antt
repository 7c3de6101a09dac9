-- docs/RULES.md, "The text" and the reader's part of "What comes back": the judgement from left to right, what a reading returns,
-- and what the entry buffer holds afterwards. Assumes nothing.
use Rattle.std.specs.Prelude.{◌≡◌, Bool, true, false, ◌&&◌, List, [], ◌∷◌, ◌++◌, ℕ, suc, ◌+◌, ◌-◌, leb, ltb, ℤ, pos, length, drop, replicate}
use Rattle.std.proofs.Math.Option.{Option, none, some}
use Rattle.rules.specs.declared.ReadAnswer.{ReadAnswer}
use Rattle.rules.specs.declared.Reading.{Reading}
use Rattle.rules.specs.Lists.{count_if, Check, check, first_of, is_zero}
use Rattle.rules.specs.Numbers.{max_text, max_vars, max_clauses, max_entries}
use Rattle.rules.specs.Meaning.{var_of}
use Rattle.texts.specs.Text.{Piece, Sizes, lines_of, tokens_from, is_skipped, header_of, is_percent, entry_of}

-- a text read as V, C and the entry list, or refused
pub data Judged : Type 0 where
  accepted : Sizes → List ℤ → Judged
  refused : ReadAnswer → Judged

abbrev pub unless : Option ReadAnswer → Judged → Judged
unless none rest = rest
unless (some a) rest = refused a

-- ---- tokens, with k clauses complete and n entries so far; the order at one token is 5, 6, 7, 8

abbrev pub entry_rules : Sizes → ℕ → ℕ → ℕ → ℤ → List (Check ReadAnswer)
entry_rules s k n at l =
    check (leb s.clauses k) (ReadAnswer.TokenBehind at) ∷
    check (ltb s.vars (var_of l)) (ReadAnswer.TokenOverVars at) ∷
    check (leb max_entries n) (ReadAnswer.ManyTokens at) ∷
    []

abbrev pub with_entry : ℤ → Judged → Judged
with_entry l (accepted s es) = accepted s (l ∷ es)
with_entry l (refused a) = refused a

abbrev pub judge_token : Option ℤ → Sizes → ℕ → ℕ → ℕ → (ℕ → Judged) → Judged
judge_token none s k n at rest = refused (ReadAnswer.BadToken at)
judge_token (some l) s k n at rest = unless (first_of (entry_rules s k n at l)) (with_entry l (rest (count_if (is_zero l) k)))

abbrev pub judge_end : Bool → Sizes → ℕ → Judged
judge_end true s end = refused (ReadAnswer.ShortText end)
judge_end false s end = accepted s []

-- a `%` where C clauses are complete ends the text, and nothing behind it is read
abbrev pub ends_text : Sizes → ℕ → List ℕ → Bool
ends_text s k w = is_percent w && leb s.clauses k

abbrev pub or_ended : Bool → Sizes → Judged → Judged
or_ended true s rest = accepted s []
or_ended false s rest = rest

-- inside a clause C clauses are not yet complete: a token behind the last one was refused
unfoldable pub judge_tokens : Sizes → ℕ → ℕ → ℕ → List Piece → Judged
judge_tokens s end k n [] = judge_end (ltb k s.clauses) s end
judge_tokens s end k n (t ∷ ts) =
    or_ended (ends_text s k t.bytes) s (judge_token (entry_of t.bytes) s k n t.at (λ j. judge_tokens s end j (suc n) ts))

-- ---- the header line, 3 before 4; then what stands behind it, from its LF on

-- the place of the LF that ends a line, or the end of the text
abbrev pub end_of : Piece → ℕ
end_of line = line.at + length line.bytes

abbrev pub judge_sizes : Bool → Sizes → List ℕ → Piece → Judged
judge_sizes true s text line = judge_tokens s (length text) 0 0 (tokens_from (end_of line) (drop (end_of line) text))
judge_sizes false s text line = refused (ReadAnswer.LargeHeader line.at)

abbrev pub fits : Sizes → Bool
fits s = leb s.vars max_vars && leb s.clauses max_clauses

abbrev pub judge_header : Option Sizes → List ℕ → Piece → Judged
judge_header none text line = refused (ReadAnswer.BadHeader line.at)
judge_header (some s) text line = judge_sizes (fits s) s text line

abbrev pub judge_line : Bool → List ℕ → Piece → Judged → Judged
judge_line true text line rest = rest
judge_line false text line rest = judge_header (header_of line.bytes) text line

unfoldable pub judge_lines : List ℕ → List Piece → Judged
judge_lines text [] = refused (ReadAnswer.BadHeader (length text))
judge_lines text (line ∷ lines) = judge_line (is_skipped line) text line (judge_lines text lines)

-- ---- the whole: 1, 2, then left to right. The buffer that is lent has `room` entries

unfoldable pub judge : ℕ → List ℕ → Judged
judge room text =
    unless
    (first_of (check (ltb room max_entries) ReadAnswer.ShortBuffer ∷ check (ltb max_text (length text)) ReadAnswer.LongText ∷ []))
    (judge_lines text (lines_of text))

-- what is returned: V, C and the entry count are zero if the text is refused
abbrev pub returned : Judged → Reading
returned (accepted s es) =
    record { answer = ReadAnswer.Accepted; vars = s.vars; clauses = s.clauses; entries = length es }
returned (refused a) = record { answer = a; vars = 0; clauses = 0; entries = 0 }

unfoldable pub reading_of : List ℕ → List ℤ → Reading
reading_of text before = returned (judge (length before) text)

-- what the buffer holds: the list, then zeros; all zeros after 3 to 9; nothing is written after 1 and 2. The rest stays
abbrev pub filled : List ℤ → List ℤ → List ℤ
filled es before = es ++ replicate (max_entries - length es) (pos 0) ++ drop max_entries before

abbrev pub written : Judged → List ℤ → List ℤ
written (accepted s es) before = filled es before
written (refused ReadAnswer.Accepted) before = before
written (refused ReadAnswer.ShortBuffer) before = before
written (refused ReadAnswer.LongText) before = before
written (refused (ReadAnswer.BadHeader at)) before = filled [] before
written (refused (ReadAnswer.LargeHeader at)) before = filled [] before
written (refused (ReadAnswer.BadToken at)) before = filled [] before
written (refused (ReadAnswer.TokenBehind at)) before = filled [] before
written (refused (ReadAnswer.TokenOverVars at)) before = filled [] before
written (refused (ReadAnswer.ManyTokens at)) before = filled [] before
written (refused (ReadAnswer.ShortText at)) before = filled [] before

unfoldable pub entries_after : List ℕ → List ℤ → List ℤ
entries_after text before = written (judge (length before) text) before

-- what a reading promises of its result and of the buffer, `before` and `after`
pub record Reads (text : List ℕ) (before : List ℤ) (result : Reading) (after : List ℤ) : Type 0 where
  pub result_is : result ≡ reading_of text before
  pub after_is : after ≡ entries_after text before
