-- The laws of `first_line` (specs/Lines): whether a line is skipped, the lines one by one as src/line.rt finds them, and what the
-- text is judged to by the line that is found.
--
--   skipped_all                   whether a line is skipped that begins with no `c`
--   cut_first, cut_whole          the first piece of a cut and the rest; a cut of one piece
--   lines_from, line_next          the line at a place, then the lines behind it; lines_end: behind the text there is none
--   text_missing, text_line, line_inside     the text by the first line that is not skipped, which lies within it
--
-- Assumes nothing.
use mathlib.Core.Path.{◌≡◌, refl, sym, ◌∙◌, ap, ap₂, subst}
use mathlib.Core.Bool.{Bool, true, false, ◌&&◌}
use mathlib.Core.List.{List, [], ◌∷◌, ◌++◌, append-nil}
use Prim.Native.Nat.{ℕ, suc, ◌+◌, ◌-◌, ◌≤◌, ◌<◌}
use native.Mathlib.Decide.{dec_lt}
use native.Mathlib.Omega.{arith}
use borrow.Author.Tests.{ne_eqb}
use lib.Dec.{eqb}
use lib.ListN.{length, take, drop, drop_of_length-le, length-drop, length-append}
use lib.Seq.{drop-drop, take-length, take_all, take-append_seam, drop-append-add, length-take-le}
use Rattle.std.specs.Prelude.{Option, None, Some}
use Rattle.std.specs.List.{list_all, starts_with}
use Rattle.rules.specs.declared.ReadAnswer.{ReadAnswer}
use Rattle.rules.specs.Lists.{all, nth_index, index_if, onto, cut, cut_if}
use Rattle.texts.specs.Text.{Piece, is_lf, is_blank, is_skipped, placed_from, lines_of, header_of}
use Rattle.texts.specs.Reading.{Judged, refused, judge_header, judge_line, judge_lines}
use Rattle.rules.proofs.ListLaws.{never}
use Rattle.texts.proofs.CutLaws.{Cut, last, piece, cut_none, cut_exists}
use Rattle.reader.specs.Scan.{first_from}
use Rattle.reader.specs.Lines.{skipped, line_if, first_line, piece_of, judge_line_at}
use Rattle.reader.proofs.ScanLaws.{first_le, first_none}

-- ---- one line

all_each : (p : ℕ → Bool) (xs : List ℕ) → list_all p xs ≡ all p xs
all_each p [] = refl
all_each p (x ∷ xs) = ap (λ (b : Bool). p x && b) (all_each p xs)

pub skipped_all : (line : List ℕ) (r : Bool) → starts_with eqb line (99 ∷ []) ≡ false → r ≡ list_all is_blank line → r ≡ skipped line
skipped_all [] r n e = e
skipped_all (b ∷ bs) r n e = rw (ne_eqb b 99 (λ q. never refl (rw q at n))) (e ∙ all_each is_blank (b ∷ bs))

-- ---- the first piece of a cut

module _ (p : ℕ → Bool) where
  pub cut_first :
      (xs : List ℕ) → nth_index p xs 0 < length xs → cut p xs ≡ take (nth_index p xs 0) xs ∷ cut p (drop (suc (nth_index p xs 0)) xs)
  cut_first [] h = absurd (omega arith)
  cut_first (x ∷ xs) h = go (p x) h (cut_first xs)
    where
      go :
          (b : Bool) → index_if b 0 (λ k. nth_index p xs k) < suc (length xs) →
          (nth_index p xs 0 < length xs → cut p xs ≡ take (nth_index p xs 0) xs ∷ cut p (drop (suc (nth_index p xs 0)) xs)) →
          cut_if b x (cut p xs) ≡ take (index_if b 0 (λ k. nth_index p xs k)) (x ∷ xs) ∷ cut p (drop (suc (index_if b 0 (λ k. nth_index p xs k))) (x ∷ xs))
      go true l ih = refl
      go false l ih = ap (onto x) (ih (omega arith))

  pub cut_whole : (xs : List ℕ) → length xs ≤ nth_index p xs 0 → cut p xs ≡ xs ∷ []
  cut_whole xs h =
      let e : nth_index p xs 0 ≡ length xs = omega (arith, first_le p xs) in
      cut_none p xs (rw (e, take-length xs) at (first_none p xs))

-- ---- lines by their places

abbrev some_line : ℕ → ℕ → Option (ℕ × ℕ)
some_line at i = Some (at, i)

abbrev pub lines_from : List ℕ → ℕ → List Piece
lines_from text at = placed_from at (cut is_lf (drop at text))

-- behind the text an empty line would be skipped
pub lines_end : (text : List ℕ) (at : ℕ) → length text < at → first_line (lines_from text at) ≡ None
lines_end text at h = rw (drop_of_length-le text {i = at} (omega arith))

module _ (text : List ℕ) (at end : ℕ) (here : end ≡ first_from is_lf text at) (within : at ≤ length text) where
  pub line_next : first_line (lines_from text at) ≡ line_if (is_skipped (piece_of text at end)) (piece_of text at end) (first_line (lines_from text (end + 1)))
  line_next = go (dec_lt end (length text))
    where
      n : ℕ
      n = nth_index is_lf (drop at text) 0

      is-n : n ≡ end - at
      is-n = omega (arith, here)

      long : length (take n (drop at text)) ≡ n
      long = length-take-le n (drop at text) (first_le is_lf (drop at text))

      go :
          Dec (end < length text) →
          first_line (lines_from text at) ≡ line_if (is_skipped (piece_of text at end)) (piece_of text at end) (first_line (lines_from text (end + 1)))
      go (yes h) =
          let place : at + length (take n (drop at text)) + 1 ≡ end + 1 = omega (arith, here, long) in
          let shift : at + suc n ≡ end + 1 = omega (arith, here) in
          ap (λ (xss : List (List ℕ)). first_line (placed_from at xss)) (cut_first is_lf (drop at text) (omega (arith, here, length-drop at text))) ∙
          ap₂
          (λ (m : ℕ) (ls : List Piece). line_if (is_skipped (record { at = at; bytes = take m (drop at text) }))
          (record { at = at; bytes = take m (drop at text) }) (first_line ls)) is-n
          (ap₂ (λ (i : ℕ) (ys : List ℕ). placed_from i (cut is_lf ys)) place (drop-drop (suc n) at text ∙ ap (λ (i : ℕ). drop i text) shift))
      go (no h) =
          ap (λ (xss : List (List ℕ)). first_line (placed_from at xss)) (cut_whole is_lf (drop at text) (omega (arith, here, length-drop at text))) ∙
          ap₂ (λ (bs : List ℕ) (rest : Option (ℕ × ℕ)). line_if (is_skipped (record { at = at; bytes = bs })) (record { at = at; bytes = bs }) rest)
          (sym (take_all (end - at) (drop at text) (omega (arith, here, length-drop at text)))) (sym (lines_end text (end + 1) (omega arith)))

  pub line_found : is_skipped (piece_of text at end) ≡ false → first_line (lines_from text at) ≡ Some (at, end)
  line_found e =
      line_next ∙
      (let most : end - at ≤ length (drop at text) = omega (arith, here, first_le is_lf (drop at text)) in
      let is-end : at + length (take (end - at) (drop at text)) ≡ end = omega (arith, here, length-take-le (end - at) (drop at text) most) in
      rw e (ap (λ (i : ℕ). some_line at i) is-end))

  pub line_past : is_skipped (piece_of text at end) ≡ true → first_line (lines_from text at) ≡ first_line (lines_from text (end + 1))
  line_past e = line_next ∙ rw e

-- ---- the text by the line that is found

abbrev by_line : List ℕ → Option (ℕ × ℕ) → Judged
by_line text None = refused (ReadAnswer.BadHeader (length text))
by_line text (Some (from, to)) = judge_line_at text from to

pub record Inside (from to n : ℕ) : Type 0 where
  pub ends : from ≤ to
  pub most : to ≤ n

abbrev Within : List ℕ → Option (ℕ × ℕ) → Type 0
Within text None = Prim.Unit {0}
Within text (Some (from, to)) = Inside from to (length text)

module _ (text : List ℕ) where
  part_is : (at : ℕ) (xs ys : List ℕ) → xs ++ ys ≡ drop at text → take (at + length xs - at) (drop at text) ≡ xs
  part_is at xs ys e =
      let long : at + length xs - at ≡ length xs = omega arith in
      ap₂ (λ (n : ℕ) (zs : List ℕ). take n zs) long (sym e) ∙ take-append_seam xs ys

  rest_is : (at : ℕ) (xs : List ℕ) (y : ℕ) (ys : List ℕ) → xs ++ y ∷ ys ≡ drop at text → ys ≡ drop (at + length xs + 1) text
  rest_is at xs y ys e =
      let shift : at + (length xs + 1) ≡ at + length xs + 1 = omega arith in
      sym (drop-append-add xs (y ∷ ys) 1) ∙ ap (drop (length xs + 1)) e ∙ drop-drop (length xs + 1) at text ∙ ap (λ (i : ℕ). drop i text) shift

  found_is :
      (at : ℕ) (xs ys : List ℕ) → xs ++ ys ≡ drop at text →
      judge_header (header_of xs) text (record { at = at; bytes = xs }) ≡ judge_line_at text at (at + length xs)
  found_is at xs ys e = ap (λ (bs : List ℕ). judge_header (header_of bs) text (record { at = at; bytes = bs })) (sym (part_is at xs ys e))

  cut_judged :
      {xs : List ℕ} {xss : List (List ℕ)} (at : ℕ) → Cut is_lf xs xss → xs ≡ drop at text →
      judge_lines text (placed_from at xss) ≡ by_line text (first_line (placed_from at xss))
  unfolding judge_lines
  cut_judged at (last {xs} h) e = go (is_skipped (record { at = at; bytes = xs }))
    where
      go :
          (t : Bool) →
          judge_line t text (record { at = at; bytes = xs }) (refused (ReadAnswer.BadHeader (length text)))
          ≡ by_line text (line_if t (record { at = at; bytes = xs }) None)
      go true = refl
      go false = found_is at xs [] (append-nil xs ∙ e)
  cut_judged at (piece {xs} {y} {ys} {yss} h q c) e =
      go (is_skipped (record { at = at; bytes = xs })) (cut_judged (at + length xs + 1) c (rest_is at xs y ys e))
    where
      go :
          (t : Bool) →
          judge_lines text (placed_from (at + length xs + 1) yss) ≡ by_line text (first_line (placed_from (at + length xs + 1) yss)) →
          judge_line t text (record { at = at; bytes = xs }) (judge_lines text (placed_from (at + length xs + 1) yss))
          ≡ by_line text (line_if t (record { at = at; bytes = xs }) (first_line (placed_from (at + length xs + 1) yss)))
      go true ih = ih
      go false ih = found_is at xs (y ∷ ys) e

  cut_within :
      {xs : List ℕ} {xss : List (List ℕ)} (at : ℕ) → Cut is_lf xs xss → length text ≡ at + length xs →
      Within text (first_line (placed_from at xss))
  cut_within at (last {xs} h) e = go (is_skipped (record { at = at; bytes = xs }))
    where
      go : (t : Bool) → Within text (line_if t (record { at = at; bytes = xs }) None)
      go true = tt
      go false = record { ends = omega arith; most = omega arith }
  cut_within at (piece {xs} {y} {ys} {yss} h q c) e =
      go (is_skipped (record { at = at; bytes = xs })) (cut_within (at + length xs + 1) c (omega (arith, e, length-append xs (y ∷ ys))))
    where
      go :
          (t : Bool) → Within text (first_line (placed_from (at + length xs + 1) yss)) →
          Within text (line_if t (record { at = at; bytes = xs }) (first_line (placed_from (at + length xs + 1) yss)))
      go true ih = ih
      go false ih = record { ends = omega arith; most = omega (arith, e, length-append xs (y ∷ ys)) }

  lines_judged : judge_lines text (lines_of text) ≡ by_line text (first_line (lines_of text))
  unfolding lines_of
  lines_judged = cut_judged 0 (cut_exists is_lf text) refl

  lines_within : Within text (first_line (lines_of text))
  unfolding lines_of
  lines_within = cut_within 0 (cut_exists is_lf text) (omega arith)

  -- by what is found
  pub text_missing : first_line (lines_of text) ≡ None → judge_lines text (lines_of text) ≡ refused (ReadAnswer.BadHeader (length text))
  text_missing e = lines_judged ∙ ap (by_line text) e

  pub text_line : (from to : ℕ) → first_line (lines_of text) ≡ Some (from, to) → judge_lines text (lines_of text) ≡ judge_line_at text from to
  text_line from to e = lines_judged ∙ ap (by_line text) e

  pub line_inside : (from to : ℕ) → first_line (lines_of text) ≡ Some (from, to) → Inside from to (length text)
  line_inside from to e = subst (Within text) e lines_within
