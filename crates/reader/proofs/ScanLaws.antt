-- The laws of `first_from` (specs/Scan): the search as a loop goes over it, what is left behind and ahead of what it finds, and the
-- words of a text, found one by one.
--
--   first_end                     the search behind the list
--   first_le, from_le             it stays within the list, and does not go back
--   first_none, first_all, first_stops    before what is found none passes; all pass the opposite test; it is found or the end is
--   words_from_lem, words_none, words_next, words_onward     separators are passed over; no word is left; the next word and the rest, further on
--
-- Assumes nothing.
use mathlib.Core.Path.{◌≡◌, refl, sym, ◌∙◌, ap, ap₂, subst}
use mathlib.Core.Bool.{Bool, true, false, not}
use mathlib.Core.List.{List, [], ◌∷◌}
use Prim.Native.Nat.{ℕ, suc, ◌+◌, ◌-◌, ◌≤◌, ◌<◌}
use native.Mathlib.Omega.{arith}
use borrow.Author.Tests.{not-true}
use lib.ListN.{length, take, drop, take-append-drop, drop_of_length-le, length-drop}
use lib.Seq.{drop-drop, length-take-le}
use Rattle.rules.specs.Lists.{any, all, nth_index, index_if}
use Rattle.texts.specs.Text.{Piece}
use Rattle.texts.proofs.CutLaws.{Stops, at_end, at_one, words_from, words_from_blanks, words_from_word}
use Rattle.reader.specs.Scan.{first_from}

module _ (p : ℕ → Bool) where
  -- ---- the search

  pub first_end : (s : List ℕ) (i : ℕ) → length s ≤ i → first_from p s i ≡ i
  first_end s i h = rw (drop_of_length-le s h) (omega arith)

  -- ---- what it leaves

  pub first_le : (xs : List ℕ) → nth_index p xs 0 ≤ length xs
  first_le [] = omega arith
  first_le (x ∷ xs) = go (p x) (first_le xs)
    where
      go : (b : Bool) → nth_index p xs 0 ≤ length xs → index_if b 0 (λ k. nth_index p xs k) ≤ suc (length xs)
      go true h = omega arith
      go false h = omega arith

  pub from_le : (s : List ℕ) (i : ℕ) → i ≤ length s → first_from p s i ≤ length s
  from_le s i h = omega (arith, first_le (drop i s), length-drop i s)

  pub first_none : (xs : List ℕ) → any p (take (nth_index p xs 0) xs) ≡ false
  first_none [] = refl
  first_none (x ∷ xs) = go (p x) refl (first_none xs)
    where
      go :
          (b : Bool) → p x ≡ b → any p (take (nth_index p xs 0) xs) ≡ false →
          any p (take (index_if b 0 (λ k. nth_index p xs k)) (x ∷ xs)) ≡ false
      go true e h = refl
      go false e h = rw e h

  pub first_all : (xs : List ℕ) → all p (take (nth_index (λ b. not (p b)) xs 0) xs) ≡ true
  first_all [] = refl
  first_all (x ∷ xs) = go (p x) refl (first_all xs)
    where
      go :
          (b : Bool) → p x ≡ b → all p (take (nth_index (λ b. not (p b)) xs 0) xs) ≡ true →
          all p (take (index_if (not b) 0 (λ k. nth_index (λ b. not (p b)) xs k)) (x ∷ xs)) ≡ true
      go true e h = rw e h
      go false e h = refl

  pub first_stops : (xs : List ℕ) → Stops p (drop (nth_index p xs 0) xs)
  first_stops [] = at_end
  first_stops (x ∷ xs) = go (p x) refl (first_stops xs)
    where
      go : (b : Bool) → p x ≡ b → Stops p (drop (nth_index p xs 0) xs) → Stops p (drop (index_if b 0 (λ k. nth_index p xs k)) (x ∷ xs))
      go true e h = at_one e
      go false e h = h

-- ---- words

module _ (p : ℕ → Bool) where
  some_byte : {xs : List ℕ} → Stops (λ b. not (p b)) xs → 1 ≤ length xs → 1 ≤ nth_index p xs 0
  some_byte at_end h = h
  some_byte (at_one {b} e) h = rw (not-true (p b) e) (omega arith)

  word_here :
      (at : ℕ) (xs : List ℕ) → Stops (λ b. not (p b)) xs → 1 ≤ length xs →
      words_from p at xs ≡ record { at = at; bytes = take (nth_index p xs 0) xs } ∷ words_from p (at + nth_index p xs 0) (drop (nth_index p xs 0) xs)
  word_here at xs s h =
      let n = nth_index p xs 0 in
      let long : length (take n xs) ≡ n = length-take-le n xs (first_le p xs) in
      ap (words_from p at) (sym (take-append-drop n xs)) ∙
      words_from_word p at (take n xs) (record { some = omega (arith, some_byte s h); none = first_none p xs }) (first_stops p xs) ∙
      ap (λ (m : ℕ). record { at = at; bytes = take n xs } ∷ words_from p (at + m) (drop n xs)) long

  -- `from` is the first byte from `at` on that is no separator
  module _ (text : List ℕ) (at from : ℕ) (here : from ≡ first_from (λ b. not (p b)) text at) where
    pub words_from_lem : words_from p at (drop at text) ≡ words_from p from (drop from text)
    words_from_lem =
        let xs = drop at text in
        let n = nth_index (λ b. not (p b)) xs 0 in
        let long : length (take n xs) ≡ n = length-take-le n xs (first_le (λ b. not (p b)) xs) in
        ap (words_from p at) (sym (take-append-drop n xs)) ∙
        words_from_blanks p at (take n xs) (drop n xs) (first_all p xs) ∙
        ap₂ (λ (i : ℕ) (ys : List ℕ). words_from p i ys) (ap (λ (m : ℕ). at + m) long ∙ sym here) (drop-drop n at text ∙ ap (λ (i : ℕ). drop i text) (sym here))

    pub words_none : length text ≤ from → words_from p at (drop at text) ≡ []
    words_none h = words_from_lem ∙ ap (words_from p from) (drop_of_length-le text h)

    starts : Stops (λ b. not (p b)) (drop from text)
    starts =
        subst (Stops (λ b. not (p b))) (drop-drop (nth_index (λ b. not (p b)) (drop at text) 0) at text ∙ ap (λ (i : ℕ). drop i text) (sym here))
        (first_stops (λ b. not (p b)) (drop at text))

    -- and `to` the first separator behind it
    pub words_next :
        (to : ℕ) → to ≡ first_from p text from → from < length text →
        words_from p at (drop at text) ≡ record { at = from; bytes = take (to - from) (drop from text) } ∷ words_from p to (drop to text)
    words_next to there h =
        let n = nth_index p (drop from text) 0 in
        let gap : n ≡ to - from = omega (arith, there) in
        words_from_lem ∙
        word_here from (drop from text) starts (omega (arith, length-drop from text)) ∙
        ap₂ (λ (i : ℕ) (ts : List Piece). record { at = from; bytes = take i (drop from text) } ∷ ts) gap
        (ap₂ (λ (i : ℕ) (ys : List ℕ). words_from p i ys) (sym there) (drop-drop n from text ∙ ap (λ (i : ℕ). drop i text) (sym there)))

    pub words_onward : (to : ℕ) → to ≡ first_from p text from → from < length text → from < to
    words_onward to there h = omega (arith, there, some_byte starts (omega (arith, length-drop from text)))
