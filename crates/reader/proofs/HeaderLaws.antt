-- The laws of the header line as src/header.rt reads it.
--
--   trim_step, trim_done          one byte less behind, or the last byte is no blank
--   word_is, word_other           whether a word is the wanted one
--   Cuts, cuts_within             a line with no blanks behind, from gap to gap, within the line
--   line_bad, line_large, line_fits     the text by what its header line says; large_vars, large_clauses, small_both: 3 before 4
--   header_four, words_more       a line with no blanks behind: four words, as they are judged, or more
--
-- Assumes nothing.
use mathlib.Core.Path.{◌≡◌, refl, sym, ◌∙◌, ap}
use mathlib.Core.Bool.{Bool, true, false, not, ◌&&◌, and-false}
use mathlib.Core.List.{List, [], ◌∷◌, ◌++◌, map}
use mathlib.Core.Option.{Option as Maybe, none, some}
use Prim.Native.Nat.{ℕ, suc, ◌+◌, ◌-◌, ◌≤◌, ◌<◌}
use native.Mathlib.Decide.{dec_lt}
use native.Mathlib.Omega.{arith}
use native.Mathlib.Numerals.{add-one}
use borrow.Author.Tests.{le-leb, lt-leb}
use lib.Dec.{eqb, leb}
use lib.Pointwise.{pointwise}
use lib.ListN.{length, get_or, take, drop, drop_of_length-le, length-drop}
use lib.Seq.{take-suc, take_all, drop-drop, length-take-le}
use Rattle.std.specs.Prelude.{Option, None, Some}
use Rattle.rules.specs.Lists.{keep, nth_index, cut, eqs}
use Rattle.rules.specs.declared.ReadAnswer.{ReadAnswer}
use Rattle.texts.specs.Text.{Piece, Sizes, is_gap, is_blank, is_empty, is_numeral, trim_if, trimmed, sizes_if, sizes_of, words_of, header_of, tokens_from}
use Rattle.texts.specs.Reading.{refused, judge_tokens, judge_sizes, fits, judge_header}
use Rattle.rules.proofs.ListLaws.{apart}
use Rattle.texts.proofs.CutLaws.{Stops, at_end, at_one, words_from, bytes_placed_words}
use Rattle.reader.specs.declared.header.Header.{Header}
use Rattle.reader.specs.Scan.{first_from}
use Rattle.reader.specs.Words.{sizes, header_line}
use Rattle.reader.specs.Lines.{piece_of, judge_line_at}
use Rattle.reader.proofs.ScanLaws.{first_end, from_le, first_stops, words_none, words_next}
use Rattle.reader.proofs.LineLaws.{cut_first, cut_whole}

-- ---- the blanks behind

trimmed-blank : (xs : List ℕ) (b : ℕ) → is_blank b ≡ true → trimmed (xs ++ b ∷ []) ≡ trimmed xs
trimmed-blank [] b e = rw e
trimmed-blank (x ∷ xs) b e = rw (trimmed-blank xs b e)

trimmed_byte : (xs : List ℕ) (b : ℕ) → is_blank b ≡ false → trimmed (xs ++ b ∷ []) ≡ xs ++ b ∷ []
trimmed_byte [] b e = rw e
trimmed_byte (x ∷ xs) b e = rw (trimmed_byte xs b e) (go (is_blank x) xs)
  where
    go : (t : Bool) (ys : List ℕ) → trim_if t x (ys ++ b ∷ []) ≡ x ∷ ys ++ b ∷ []
    go true [] = refl
    go true (y ∷ ys) = refl
    go false ys = refl

module _ (line : List ℕ) (n : ℕ) (some : 0 < n) (within : n ≤ length line) where
  last_byte : take n line ≡ take (n - 1) line ++ get_or line (n - 1) 0 ∷ []
  last_byte =
      let e : n ≡ suc (n - 1) = omega arith in
      ap (λ (k : ℕ). take k line) e ∙ take-suc line (n - 1) 0 (omega arith)

  pub trim_step : is_blank (get_or line (n - 1) 0) ≡ true → trimmed (take n line) ≡ trimmed (take (n - 1) line)
  trim_step e = ap trimmed last_byte ∙ trimmed-blank (take (n - 1) line) (get_or line (n - 1) 0) e

  pub trim_done : is_blank (get_or line (n - 1) 0) ≡ false → take n line ≡ trimmed (take n line)
  trim_done e = last_byte ∙ sym (trimmed_byte (take (n - 1) line) (get_or line (n - 1) 0) e) ∙ ap trimmed (sym last_byte)

-- ---- a word is the wanted one

eqs_is : (xs ys : List ℕ) → pointwise eqb xs ys ≡ eqs xs ys
eqs_is [] [] = refl
eqs_is [] (y ∷ ys) = refl
eqs_is (x ∷ xs) [] = refl
eqs_is (x ∷ xs) (y ∷ ys) = ap (λ (b : Bool). eqb x y && b) (eqs_is xs ys)

-- what `==` answers
pub word_is : {r t : Bool} {v : List ℕ} (word wanted : List ℕ) → r ≡ pointwise eqb word v → v ≡ wanted → r ≡ t → eqs word wanted ≡ t
word_is {r} {t} {v} word wanted e q h = sym (e ∙ ap (pointwise eqb word) q ∙ eqs_is word wanted) ∙ h

flip : (x t : Bool) → not x ≡ t → x ≡ not t
flip true t e = ap not e
flip false t e = ap not e

-- and `!=`
pub word_other :
    {r t : Bool} {v : List ℕ} (word wanted : List ℕ) → r ≡ not (pointwise eqb word v) → v ≡ wanted → r ≡ t → eqs word wanted ≡ not t
word_other {r} {t} {v} word wanted e q h =
    flip (eqs word wanted) t (ap not (sym (ap (pointwise eqb word) q ∙ eqs_is word wanted)) ∙ sym e ∙ h)

-- ---- words from gap to gap

-- the words from the place `at` on
abbrev words_at : List ℕ → ℕ → List (List ℕ)
words_at line at = map (λ (t : Piece). t.bytes) (words_from is_gap at (drop at line))

stops_words :
    {xs : List ℕ} (at : ℕ) → Stops is_gap xs →
    keep (λ v. not (is_empty v)) (cut is_gap (drop 1 xs)) ≡ map (λ (t : Piece). t.bytes) (words_from is_gap at xs)
stops_words at at_end = refl
stops_words at (at_one {bs} e) = rw e (sym (bytes_placed_words (at + 0 + 1) (cut is_gap bs)))

-- the first word starts at the first byte
words_first : (line : List ℕ) (n : ℕ) → n ≡ first_from is_gap line 0 → words_of (cut is_gap line) ≡ take n line ∷ words_at line n
words_first line n here = go (dec_lt n (length line))
  where
    is-n : nth_index is_gap line 0 ≡ n
    is-n = omega (arith, here)

    go : Dec (n < length line) → words_of (cut is_gap line) ≡ take n line ∷ words_at line n
    go (yes h) =
        ap words_of (cut_first is_gap line (omega (arith, is-n))) ∙
        rw is-n
        (ap (λ (xs : List ℕ). take n line ∷ keep (λ v. not (is_empty v)) (cut is_gap xs))
        (ap (λ (i : ℕ). drop i line) (sym (add-one n)) ∙ sym (drop-drop 1 n line)) ∙
        ap (λ (ws : List (List ℕ)). take n line ∷ ws) (stops_words n (rw is-n at (first_stops is_gap line))))
    go (no h) =
        ap words_of (cut_whole is_gap line (omega (arith, is-n))) ∙
        rw (drop_of_length-le line {i = n} (omega arith), take_all n line (omega arith))

-- a line with no blanks behind, word by word: the first gap, the next word and its end, three times, and what stands behind
pub record Cuts (line : List ℕ) (p cnf cnf-end vars vars-end clauses clauses-end more : ℕ) : Type 0 where
  pub p_to : p ≡ first_from is_gap line 0
  pub cnf_from : cnf ≡ first_from (λ b. not (is_gap b)) line p
  pub cnf_to : cnf-end ≡ first_from is_gap line cnf
  pub vars_from : vars ≡ first_from (λ b. not (is_gap b)) line cnf-end
  pub vars_to : vars-end ≡ first_from is_gap line vars
  pub clauses_from : clauses ≡ first_from (λ b. not (is_gap b)) line vars-end
  pub clauses_to : clauses-end ≡ first_from is_gap line clauses
  pub more_from : more ≡ first_from (λ b. not (is_gap b)) line clauses-end

pub record Ends (n p cnf-end vars-end clauses-end : ℕ) : Type 0 where
  pub p_most : p ≤ n
  pub cnf_most : cnf-end ≤ n
  pub vars_most : vars-end ≤ n
  pub clauses_most : clauses-end ≤ n

end_le :
    (line : List ℕ) (at from to : ℕ) → from ≡ first_from (λ b. not (is_gap b)) line at → to ≡ first_from is_gap line from →
    at ≤ length line → to ≤ length line
end_le line at from to e f h =
    let l : from ≤ length line = omega (arith, e, from_le (λ b. not (is_gap b)) line at h) in
    omega (arith, f, from_le is_gap line from l)

pub cuts_within :
    {line : List ℕ} {p cnf cnf-end vars vars-end clauses clauses-end more : ℕ} →
    Cuts line p cnf cnf-end vars vars-end clauses clauses-end more → Ends (length line) p cnf-end vars-end clauses-end
cuts_within {line} {p} {cnf} {cnf-end} {vars} {vars-end} {clauses} {clauses-end} w =
    let a : p ≤ length line = omega (arith, w.p_to, from_le is_gap line 0 (omega arith)) in
    let b = end_le line p cnf cnf-end w.cnf_from w.cnf_to a in
    let c = end_le line cnf-end vars vars-end w.vars_from w.vars_to b in
    record { p_most = a; cnf_most = b; vars_most = c; clauses_most = end_le line vars-end clauses clauses-end w.clauses_from w.clauses_to c }

no_cnf : (p v c : List ℕ) → none ≡ sizes_of (p ∷ [] ∷ v ∷ c ∷ [])
no_cnf p v c = go (eqs p (112 ∷ []))
  where
    go : (t : Bool) → none ≡ sizes_if (t && (false && (is_numeral v && is_numeral c))) v c
    go true = refl
    go false = refl

no_vars : (p w c : List ℕ) → none ≡ sizes_of (p ∷ w ∷ [] ∷ c ∷ [])
no_vars p w c = go (eqs p (112 ∷ [])) (eqs w (99 ∷ 110 ∷ 102 ∷ []))
  where
    go : (t u : Bool) → none ≡ sizes_if (t && (u && (false && is_numeral c))) [] c
    go true true = refl
    go true false = refl
    go false u = refl

no_clauses : (p w v : List ℕ) → none ≡ sizes_of (p ∷ w ∷ v ∷ [] ∷ [])
no_clauses p w v = go (eqs p (112 ∷ [])) (eqs w (99 ∷ 110 ∷ 102 ∷ [])) (is_numeral v)
  where
    go : (t u n : Bool) → none ≡ sizes_if (t && (u && (n && false))) v []
    go true true true = refl
    go true true false = refl
    go true false n = refl
    go false u n = refl

module _ (line : List ℕ) where
  abbrev part : ℕ → ℕ → List ℕ
  part from to = take (to - from) (drop from line)

  part_none : (from to : ℕ) → to ≡ first_from is_gap line from → length line ≤ from → [] ≡ part from to
  part_none from to e h =
      let z : 0 ≡ to - from = omega (arith, e, first_end is_gap line from h) in
      ap (λ (k : ℕ). take k (drop from line)) z

  at_none : (at from : ℕ) → from ≡ first_from (λ b. not (is_gap b)) line at → length line ≤ from → words_at line at ≡ []
  at_none at from e h = ap (map (λ (t : Piece). t.bytes)) (words_none is_gap line at from e h)

  at_next :
      (at from to : ℕ) → from ≡ first_from (λ b. not (is_gap b)) line at → to ≡ first_from is_gap line from → from < length line →
      words_at line at ≡ part from to ∷ words_at line to
  at_next at from to e f h = ap (map (λ (t : Piece). t.bytes)) (words_next is_gap line at from e to f h)

module _ {line : List ℕ} {p cnf cnf-end vars vars-end clauses clauses-end more : ℕ} (w : Cuts line p cnf cnf-end vars vars-end clauses clauses-end more) where
  abbrev W : List ℕ
  W = take p line

  -- a word that is missing counts as an empty one, which no header has
  words_four :
      length line ≤ more →
      sizes_of (words_of (cut is_gap line)) ≡
      sizes_of (take p line ∷ take (cnf-end - cnf) (drop cnf line) ∷ take (vars-end - vars) (drop vars line) ∷
      take (clauses-end - clauses) (drop clauses line) ∷ [])
  words_four h = ap sizes_of (words_first line p w.p_to) ∙ second (dec_lt cnf (length line))
    where
      fourth :
          Dec (clauses < length line) →
          sizes_of (W ∷ part line cnf cnf-end ∷ part line vars vars-end ∷ words_at line vars-end)
          ≡ sizes_of (W ∷ part line cnf cnf-end ∷ part line vars vars-end ∷ part line clauses clauses-end ∷ [])
      fourth (yes l) =
          ap (λ (ws : List (List ℕ)). sizes_of (W ∷ part line cnf cnf-end ∷ part line vars vars-end ∷ ws))
          (at_next line vars-end clauses clauses-end w.clauses_from w.clauses_to l ∙
          ap (λ (ws : List (List ℕ)). part line clauses clauses-end ∷ ws) (at_none line clauses-end more w.more_from h))
      fourth (no l) =
          ap (λ (ws : List (List ℕ)). sizes_of (W ∷ part line cnf cnf-end ∷ part line vars vars-end ∷ ws))
          (at_none line vars-end clauses w.clauses_from (omega arith)) ∙
          no_clauses W (part line cnf cnf-end) (part line vars vars-end) ∙
          ap (λ (x : List ℕ). sizes_of (W ∷ part line cnf cnf-end ∷ part line vars vars-end ∷ x ∷ []))
          (part_none line clauses clauses-end w.clauses_to (omega arith))

      third :
          Dec (vars < length line) →
          sizes_of (W ∷ part line cnf cnf-end ∷ words_at line cnf-end)
          ≡ sizes_of (W ∷ part line cnf cnf-end ∷ part line vars vars-end ∷ part line clauses clauses-end ∷ [])
      third (yes l) =
          ap (λ (ws : List (List ℕ)). sizes_of (W ∷ part line cnf cnf-end ∷ ws)) (at_next line cnf-end vars vars-end w.vars_from w.vars_to l) ∙
          fourth (dec_lt clauses (length line))
      third (no l) =
          ap (λ (ws : List (List ℕ)). sizes_of (W ∷ part line cnf cnf-end ∷ ws)) (at_none line cnf-end vars w.vars_from (omega arith)) ∙
          no_vars W (part line cnf cnf-end) (part line clauses clauses-end) ∙
          ap (λ (x : List ℕ). sizes_of (W ∷ part line cnf cnf-end ∷ x ∷ part line clauses clauses-end ∷ []))
          (part_none line vars vars-end w.vars_to (omega arith))

      second :
          Dec (cnf < length line) →
          sizes_of (W ∷ words_at line p) ≡ sizes_of (W ∷ part line cnf cnf-end ∷ part line vars vars-end ∷ part line clauses clauses-end ∷ [])
      second (yes l) = ap (λ (ws : List (List ℕ)). sizes_of (W ∷ ws)) (at_next line p cnf cnf-end w.cnf_from w.cnf_to l) ∙ third (dec_lt vars (length line))
      second (no l) =
          ap (λ (ws : List (List ℕ)). sizes_of (W ∷ ws)) (at_none line p cnf w.cnf_from (omega arith)) ∙
          no_cnf W (part line vars vars-end) (part line clauses clauses-end) ∙
          ap (λ (x : List ℕ). sizes_of (W ∷ x ∷ part line vars vars-end ∷ part line clauses clauses-end ∷ []))
          (part_none line cnf cnf-end w.cnf_to (omega arith))

  pub header_four :
      length line ≤ more → {r : Option Header} →
      r ≡
      header_line
      (sizes_of (take p line ∷ take (cnf-end - cnf) (drop cnf line) ∷ take (vars-end - vars) (drop vars line) ∷
      take (clauses-end - clauses) (drop clauses line) ∷ [])) →
      r ≡ header_line (sizes_of (words_of (cut is_gap line)))
  header_four h e = e ∙ sym (ap header_line (words_four h))

  pub words_more : more < length line → sizes_of (words_of (cut is_gap line)) ≡ none
  words_more h = ap sizes_of (words_first line p w.p_to) ∙ second (dec_lt cnf (length line))
    where
      fourth : Dec (clauses < length line) → sizes_of (W ∷ part line cnf cnf-end ∷ part line vars vars-end ∷ words_at line vars-end) ≡ none
      fourth (yes l) =
          ap (λ (ws : List (List ℕ)). sizes_of (W ∷ part line cnf cnf-end ∷ part line vars vars-end ∷ ws))
          (at_next line vars-end clauses clauses-end w.clauses_from w.clauses_to l ∙
          ap (λ (ws : List (List ℕ)). part line clauses clauses-end ∷ ws) (at_next line clauses-end more (first_from is_gap line more) w.more_from refl h))
      fourth (no l) =
          ap (λ (ws : List (List ℕ)). sizes_of (W ∷ part line cnf cnf-end ∷ part line vars vars-end ∷ ws))
          (at_none line vars-end clauses w.clauses_from (omega arith))

      third : Dec (vars < length line) → sizes_of (W ∷ part line cnf cnf-end ∷ words_at line cnf-end) ≡ none
      third (yes l) =
          ap (λ (ws : List (List ℕ)). sizes_of (W ∷ part line cnf cnf-end ∷ ws)) (at_next line cnf-end vars vars-end w.vars_from w.vars_to l) ∙
          fourth (dec_lt clauses (length line))
      third (no l) = ap (λ (ws : List (List ℕ)). sizes_of (W ∷ part line cnf cnf-end ∷ ws)) (at_none line cnf-end vars w.vars_from (omega arith))

      second : Dec (cnf < length line) → sizes_of (W ∷ words_at line p) ≡ none
      second (yes l) = ap (λ (ws : List (List ℕ)). sizes_of (W ∷ ws)) (at_next line p cnf cnf-end w.cnf_from w.cnf_to l) ∙ third (dec_lt vars (length line))
      second (no l) = ap (λ (ws : List (List ℕ)). sizes_of (W ∷ ws)) (at_none line p cnf w.cnf_from (omega arith))

-- ---- the text by what its header line says

module _ (text : List ℕ) (from to : ℕ) where
  abbrev line : List ℕ
  line = (piece_of text from to).bytes

  header_bad : (o : Maybe Sizes) → header_line o ≡ None → o ≡ none
  header_bad none e = refl
  header_bad (some s) e = apart cc

  header_good : (o : Maybe Sizes) (h : Header) → header_line o ≡ Some h → o ≡ some (sizes h)
  header_good none h e = apart cc
  header_good (some s) h e = let r : record { vars = s.vars; clauses = s.clauses } ≡ h = cc in rw (← r)

  pub line_bad : header_line (header_of line) ≡ None → judge_line_at text from to ≡ refused (ReadAnswer.BadHeader from)
  line_bad e = ap (λ (o : Maybe Sizes). judge_header o text (piece_of text from to)) (header_bad (header_of line) e)

  module _ (h : Header) (is-header : header_line (header_of line) ≡ Some h) where
    by_sizes : judge_line_at text from to ≡ judge_sizes (fits (sizes h)) (sizes h) text (piece_of text from to)
    by_sizes = ap (λ (o : Maybe Sizes). judge_header o text (piece_of text from to)) (header_good (header_of line) h is-header)

    pub line_large : fits (sizes h) ≡ false → judge_line_at text from to ≡ refused (ReadAnswer.LargeHeader from)
    line_large e = by_sizes ∙ ap (λ (t : Bool). judge_sizes t (sizes h) text (piece_of text from to)) e

    pub line_fits :
        fits (sizes h) ≡ true → from ≤ to → to ≤ length text →
        judge_line_at text from to ≡ judge_tokens (sizes h) (length text) 0 0 (tokens_from to (drop to text))
    line_fits e low most =
        let long : length line ≡ to - from = length-take-le (to - from) (drop from text) (omega (arith, length-drop from text)) in
        let next : from + length line ≡ to = omega (arith, long) in
        by_sizes ∙
        ap (λ (t : Bool). judge_sizes t (sizes h) text (piece_of text from to)) e ∙
        ap (λ (i : ℕ). judge_tokens (sizes h) (length text) 0 0 (tokens_from i (drop i text))) next

pub large_vars : (h : Header) → 256 < h.vars → fits (sizes h) ≡ false
large_vars h l = rw (lt-leb h.vars 256 l)

pub large_clauses : (h : Header) → 1024 < h.clauses → fits (sizes h) ≡ false
large_clauses h l = rw (lt-leb h.clauses 1024 l) (and-false (leb h.vars 256))

pub small_both : (h : Header) → h.vars ≤ 256 → h.clauses ≤ 1024 → fits (sizes h) ≡ true
small_both h v c = rw (le-leb h.vars 256 v, le-leb h.clauses 1024 c)
