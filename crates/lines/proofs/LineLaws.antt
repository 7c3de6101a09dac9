-- The laws of lines: field behind field they are those of docs/RULES.md, "The printed table", and a line a variable is a piece.
--
--   refused_line_lem, answer_line_lem     the fields as they are put are the line
--   refused_some      the number of a refused reading is not 0
--   words_off         what a status above 2 says
--   line_piece, lines_pieces, line_at     a line a variable, as pieces
--
-- Assumes nothing.
use mathlib.Core.Path.{◌≡◌, refl, sym, ◌∙◌, ap}
use mathlib.Core.Logic.{◌≢◌}
use mathlib.Core.List.{List, [], ◌∷◌, ◌++◌, append_assoc}
use Prim.Native.Nat.{ℕ, zero, suc, pred, ◌+◌, ◌-◌, ◌≤◌}
use native.Mathlib.Omega.{arith}
use native.Mathlib.Numerals.{add-one}
use lib.ListN.{get_or}
use Rattle.rules.specs.declared.ReadAnswer.{ReadAnswer}
use Rattle.rules.specs.declared.Report.{Report}
use Rattle.rules.specs.Lists.{pieces}
use Rattle.rules.specs.Numbers.{read_number, run_number}
use Rattle.texts.specs.Plain.{decimal}
use Rattle.texts.specs.Printed.{answer_word, calls_word, tries_word, forced_word, free_word, open_word, off_word, held_word}
use Rattle.texts.specs.Printed.{refused_word, place_word, refused_line, answer_line, status_words, status_lines}
use Rattle.lines.specs.Lines.{count_fields, end_fields, refused_fields, status_line}

-- ---- fields

pub refused_line_lem : (number place : ℕ) → refused_fields number place ≡ refused_line number place
refused_line_lem number place =
    let a = refused_word ++ decimal number in
    sym (append_assoc a (place_word ++ decimal place) (10 ∷ [])) ∙
    ap (λ (xs : List ℕ). xs ++ 10 ∷ []) (sym (append_assoc a place_word (decimal place)))

pub refused_some : (a : ReadAnswer) → a ≢ ReadAnswer.Accepted → read_number a ≢ 0
refused_some ReadAnswer.Accepted n = absurd (n refl)
refused_some ReadAnswer.ShortBuffer n = λ e. omega (arith, e)
refused_some ReadAnswer.LongText n = λ e. omega (arith, e)
refused_some (ReadAnswer.BadHeader at) n = λ e. omega (arith, e)
refused_some (ReadAnswer.LargeHeader at) n = λ e. omega (arith, e)
refused_some (ReadAnswer.BadToken at) n = λ e. omega (arith, e)
refused_some (ReadAnswer.TokenBehind at) n = λ e. omega (arith, e)
refused_some (ReadAnswer.TokenOverVars at) n = λ e. omega (arith, e)
refused_some (ReadAnswer.ManyTokens at) n = λ e. omega (arith, e)
refused_some (ReadAnswer.ShortText at) n = λ e. omega (arith, e)

-- fields in threes, and all in a row
fields_row : (a b c d e f x y z w u v n : List ℕ) → ((a ++ b) ++ ((c ++ d) ++ (e ++ f))) ++ ((x ++ y) ++ ((z ++ w) ++ ((u ++ v) ++ n)))
    ≡ a ++ b ++ c ++ d ++ e ++ f ++ x ++ y ++ z ++ w ++ u ++ v ++ n
fields_row a b c d e f x y z w u v n = simp append_assoc refl

pub answer_line_lem : (vars : ℕ) (r : Report)
    → count_fields (run_number r.answer) r.calls r.tries ++ end_fields r.forced r.free (vars - r.forced - r.free) ≡ answer_line vars r
answer_line_lem vars r =
    fields_row answer_word (decimal (run_number r.answer)) calls_word (decimal r.calls) tries_word (decimal r.tries) forced_word
    (32 ∷ decimal r.forced) free_word (32 ∷ decimal r.free) open_word (32 ∷ decimal (vars - r.forced - r.free)) (10 ∷ [])

-- ---- statuses

pub words_off : (s hint : ℕ) → 3 ≤ s → status_words s hint ≡ forced_word ++ off_word ++ held_word ++ decimal hint
words_off zero hint h = absurd (omega arith)
words_off (suc zero) hint h = absurd (omega arith)
words_off (suc (suc zero)) hint h = absurd (omega arith)
words_off (suc (suc (suc s))) hint h = refl

lines_cons : (v s : ℕ) (ss hs : List ℕ) → status_lines v (s ∷ ss) hs ≡ status_line v s (get_or hs (pred v) 0) ++ status_lines (suc v) ss hs
lines_cons v s ss hs =
    let words = status_words s (get_or hs (pred v) 0) in
    append_assoc (decimal v) words (10 ∷ status_lines (suc v) ss hs) ∙
    ap (λ (xs : List ℕ). decimal v ++ xs) (sym (append_assoc words (10 ∷ []) (status_lines (suc v) ss hs))) ∙
    sym (append_assoc (decimal v) (words ++ 10 ∷ []) (status_lines (suc v) ss hs))

-- the line of a variable, whose hint is looked up by its number
abbrev pub line_piece : List ℕ → ℕ → ℕ → List ℕ
line_piece hs v s = status_line v s (get_or hs (pred v) 0)

pub lines_pieces : (v : ℕ) (ss hs : List ℕ) → status_lines v ss hs ≡ pieces (line_piece hs) v ss
lines_pieces v [] hs = refl
lines_pieces v (s ∷ ss) hs = lines_cons v s ss hs ∙ ap (λ (xs : List ℕ). line_piece hs v s ++ xs) (lines_pieces (suc v) ss hs)

-- by its index
pub line_at : (hs : List ℕ) (i s : ℕ) → line_piece hs (i + 1) s ≡ status_line (i + 1) s (get_or hs i 0)
line_at hs i s = rw (add-one i)
