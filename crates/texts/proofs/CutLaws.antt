-- The laws of `cut` and of pieces with their places (specs/Lists, specs/Text). A relation says how a list falls into pieces,
-- another one how a text falls into words; each holds of exactly what is computed, so a proof goes by its cases.
--
--   nil_not_append                a list with an element in it is not empty
--   cut_none, cut_piece           cut of a list where none passes; of a piece, an element that passes, and a rest
--   Cut, cut_exists, cut_unique   the pieces of a list: the cut is such, and there is no other
--   placed_words, words_from        the pieces that are not empty, each with its place
--   Stops, Word, Words            a text as words with separators before, between and behind
--   words_of_cut, words_unique    words_from gives such words, and there are no others
--   words_from_blanks, words_from_word     separators are passed over; a word is found
--   bytes_placed_words             words without their places
--
-- Assumes nothing.
use mathlib.Core.Path.{◌≡◌, refl, sym, ◌∙◌, ap, ap₂, subst}
use mathlib.Core.Bool.{Bool, true, false, not}
use mathlib.Core.List.{List, [], ◌∷◌, ◌++◌, map, append-nil, append_assoc}
use Prim.Native.Nat.{ℕ, suc, ◌+◌, ◌≤◌}
use native.Mathlib.Omega.{arith}
use lib.ListN.{length}
use Rattle.rules.specs.Lists.{any, all, keep, onto, cut, cut_if}
use Rattle.texts.specs.Text.{Piece, is_empty, placed_from}
use Rattle.rules.proofs.ListLaws.{apart, and_left, and_right, or_left, or_right}

pub nil_not_append : {A : Type 0} (xs : List A) (y : A) (ys : List A) → [] ≡ xs ++ y ∷ ys → ⊥
nil_not_append [] y ys e = apart cc
nil_not_append (x ∷ xs) y ys e = apart cc

-- ---- cut

pub data Cut {A : Type 0} (p : A → Bool) : List A → List (List A) → Type 0 where
  last : {xs : List A} → any p xs ≡ false → Cut p xs (xs ∷ [])
  piece : {xs : List A} {y : A} {ys : List A} {yss : List (List A)} → any p xs ≡ false → p y ≡ true → Cut p ys yss
      → Cut p (xs ++ y ∷ ys) (xs ∷ yss)

module _ {A : Type 0} (p : A → Bool) where
  pub cut_none : (xs : List A) → any p xs ≡ false → cut p xs ≡ xs ∷ []
  cut_none [] h = refl
  cut_none (x ∷ xs) h = rw (or_left (p x) (any p xs) h, cut_none xs (or_right (p x) (any p xs) h))

  pub cut_piece : (xs : List A) (y : A) (ys : List A) → any p xs ≡ false → p y ≡ true → cut p (xs ++ y ∷ ys) ≡ xs ∷ cut p ys
  cut_piece [] y ys h e = rw e
  cut_piece (x ∷ xs) y ys h e = rw (or_left (p x) (any p xs) h, cut_piece xs y ys (or_right (p x) (any p xs) h) e)

  pub cut_unique : {xs : List A} {xss : List (List A)} → Cut p xs xss → cut p xs ≡ xss
  cut_unique (last {xs} h) = cut_none xs h
  cut_unique (piece {xs} {y} {ys} h e c) = cut_piece xs y ys h e ∙ ap (λ (yss : List (List A)). xs ∷ yss) (cut_unique c)

  cut_onto : {x : A} {ys : List A} {yss : List (List A)} → p x ≡ false → Cut p ys yss → Cut p (x ∷ ys) (onto x yss)
  cut_onto {x} e (last {xs} h) = last {xs = x ∷ xs} (rw e h)
  cut_onto {x} e (piece {xs} h f c) = piece {xs = x ∷ xs} (rw e h) f c

  pub cut_exists : (xs : List A) → Cut p xs (cut p xs)
  cut_exists [] = last refl
  cut_exists (x ∷ xs) = go (p x) refl (cut_exists xs)
    where
      go : (b : Bool) → p x ≡ b → Cut p xs (cut p xs) → Cut p (x ∷ xs) (cut_if b x (cut p xs))
      go true e c = piece {xs = []} refl e c
      go false e c = cut_onto e c

-- ---- words

-- the pieces that are not empty
abbrev pub placed_words : ℕ → List (List ℕ) → List Piece
placed_words at xss = keep (λ t. not (is_empty t.bytes)) (placed_from at xss)

abbrev pub words_from : (ℕ → Bool) → ℕ → List ℕ → List Piece
words_from p at text = placed_words at (cut p text)

-- a word is ended by a separator or the end
pub data Stops (p : ℕ → Bool) : List ℕ → Type 0 where
  at_end : Stops p []
  at_one : {b : ℕ} {bs : List ℕ} → p b ≡ true → Stops p (b ∷ bs)

pub record Word (p : ℕ → Bool) (w : List ℕ) : Type 0 where
  pub some : 1 ≤ length w
  pub none : any p w ≡ false

-- from the place `at` on
pub data Words (p : ℕ → Bool) : ℕ → List ℕ → List Piece → Type 0 where
  none : {at : ℕ} {bs : List ℕ} → all p bs ≡ true → Words p at bs []
  word : (bs : List ℕ) {at here next : ℕ} {w rest : List ℕ} {ts : List Piece} → all p bs ≡ true → Word p w → here ≡ at + length bs
      → next ≡ here + length w → Stops p rest → Words p next rest ts
      → Words p at (bs ++ w ++ rest) (record { at = here; bytes = w } ∷ ts)

module _ (p : ℕ → Bool) where
  words_skip : {at next : ℕ} {y : ℕ} {ys : List ℕ} {ts : List Piece} → next ≡ suc at → p y ≡ true → Words p next ys ts
      → Words p at (y ∷ ys) ts
  words_skip {y} q e (none {bs} h) = none {bs = y ∷ bs} (rw e h)
  words_skip {at} {y} q e (word bs {here} h w i j s r) = word (y ∷ bs) {at = at} {here = here} (rw e h) w (omega arith) j s r

  -- a word at once
  words_now : (at : ℕ) (x : ℕ) (xs : List ℕ) {rest : List ℕ} {ts : List Piece} → any p (x ∷ xs) ≡ false → Stops p rest
      → Words p (at + length (x ∷ xs)) rest ts → Words p at ((x ∷ xs) ++ rest) (record { at = at; bytes = x ∷ xs } ∷ ts)
  words_now at x xs h s r = word [] {at = at} {here = at} {w = x ∷ xs} refl (record { some = omega arith; none = h }) (omega arith) refl s r

  pub words_of_cut : {xs : List ℕ} {xss : List (List ℕ)} (at : ℕ) → Cut p xs xss → Words p at xs (placed_words at xss)
  words_of_cut at (last {xs = []} h) = none refl
  words_of_cut at (last {xs = x ∷ xs} h) =
      subst (λ (ys : List ℕ). Words p at ys (record { at = at; bytes = x ∷ xs } ∷ [])) (append-nil (x ∷ xs)) (words_now at x xs h at_end (none refl))
  words_of_cut at (piece {xs = []} h e c) = words_skip (omega arith) e (words_of_cut (at + 0 + 1) c)
  words_of_cut at (piece {xs = x ∷ xs} h e c) =
      words_now at x xs h (at_one e) (words_skip (omega arith) e (words_of_cut (at + length (x ∷ xs) + 1) c))

  pub words_from_blanks : (at : ℕ) (bs xs : List ℕ) → all p bs ≡ true → words_from p at (bs ++ xs) ≡ words_from p (at + length bs) xs
  words_from_blanks at [] xs h = ap (λ (i : ℕ). words_from p i xs) (omega arith)
  words_from_blanks at (b ∷ bs) xs h =
      rw (and_left (p b) (all p bs) h)
      (words_from_blanks (at + 0 + 1) bs xs (and_right (p b) (all p bs) h) ∙ ap (λ (i : ℕ). words_from p i xs) (omega arith))

  pub words_from_word : (at : ℕ) (w : List ℕ) {rest : List ℕ} → Word p w → Stops p rest
      → words_from p at (w ++ rest) ≡ record { at = at; bytes = w } ∷ words_from p (at + length w) rest
  words_from_word at [] h s = absurd (omega arith)
  words_from_word at (x ∷ xs) h at_end = ap (placed_words at) (ap (cut p) (append-nil (x ∷ xs)) ∙ cut_none p (x ∷ xs) h.none)
  words_from_word at (x ∷ xs) h (at_one {b} {bs} e) =
      ap (placed_words at) (cut_piece p (x ∷ xs) b bs h.none e) ∙
      rw e (ap (λ (i : ℕ). record { at = at; bytes = x ∷ xs } ∷ words_from p i bs) (omega arith))

  pub words_unique : {at : ℕ} {xs : List ℕ} {ts : List Piece} → Words p at xs ts → words_from p at xs ≡ ts
  words_unique {at} (none {bs} h) = ap (λ (xs : List ℕ). words_from p at xs) (sym (append-nil bs)) ∙ words_from_blanks at bs [] h
  words_unique {at} (word bs {here} {next} {w} {rest} h k i j s r) =
      ap (words_from p at) (append_assoc bs w rest) ∙ words_from_blanks at bs (w ++ rest) h ∙ words_from_word (at + length bs) w k s ∙
      ap₂ (λ (a b : ℕ). record { at = a; bytes = w } ∷ words_from p b rest) (sym i) (omega arith) ∙
      ap (λ (ts : List Piece). record { at = here; bytes = w } ∷ ts) (words_unique r)

pub bytes_placed_words : (at : ℕ) (xss : List (List ℕ))
    → map (λ (t : Piece). t.bytes) (placed_words at xss) ≡ keep (λ v. not (is_empty v)) xss
bytes_placed_words at [] = refl
bytes_placed_words at ([] ∷ xss) = bytes_placed_words (at + 0 + 1) xss
bytes_placed_words at ((x ∷ xs) ∷ xss) = ap (λ (yss : List (List ℕ)). (x ∷ xs) ∷ yss) (bytes_placed_words (at + length (x ∷ xs) + 1) xss)
