-- The laws of tokens and of the lines before the header (specs/Text against specs/Grammar): what they are read as is what the grammar
-- says they are, and the other way round.
--
--   not_none, none_of_not         nothing is not something; what is no thing is nothing
--   all_mono, any_of_all, any_append_of, any_append_right     tests that follow from others; any over `++`
--   blank_of_gap, digit_above, digit_most, not_gap_of_digit, not_lf_of_gap     bytes
--   numeral_sound, numeral_complete, numeral_digits, numeral_says     1 to 9 digits; word_of_numeral: they have no blank
--   entry_sound, entry_complete, entry_none     a token and the entry it says; word_of_token: it has no blank
--   percent_sound, percent_none   `%` is no entry; token_not_percent: an entry is no `%`
--   skipped_sound, skipped_complete     lines before the header
--
-- Assumes nothing.
use mathlib.Core.Path.{◌≡◌, refl, ap, subst}
use mathlib.Core.Bool.{Bool, true, false, ◌&&◌, ◌||◌, or-true}
use mathlib.Core.List.{List, [], ◌∷◌, ◌++◌}
use mathlib.Core.Option.{Option, none, some}
use Prim.Native.Nat.{ℕ, zero, suc, ◌≤◌}
use native.Mathlib.Omega.{arith}
use lib.Dec.{eqb, leb}
use lib.IntN.{ℤ, pos, negsuc}
use lib.ListN.{length}
use borrow.Author.Tests.{eqb-true, ne_eqb, leb-true, le-leb}
use Rattle.rules.specs.Lists.{any, all}
use Rattle.texts.specs.Text.{is_lf, is_gap, is_blank, is_digit, is_numeral, numeral, Piece, is_comment, is_skipped, is_percent}
use Rattle.texts.specs.Text.{negative_of, entry_if, signed_if, entry_of}
use Rattle.texts.specs.Grammar.{NoLf, Skipped, blanks, comment, Digits, Numeral, Token, plain, minus}
use Rattle.rules.proofs.ListLaws.{apart, never, not-true, and_left, and_right, all_sound, all_complete, any_of_none, any_append, or_right, eqs_sound}
use Rattle.texts.proofs.ByteLaws.{blanks_sound, blanks_complete, no_lf_sound, no_lf_complete, digits_sound, digits_complete}
use Rattle.texts.proofs.CutLaws.{Word}

pub not_none : {A : Type 0} {o : Option A} {a : A} → o ≡ some a → o ≡ none → ⊥
not_none p q = apart cc

-- what nothing is read from is read as nothing
pub none_of_not : {A : Type 0} (o : Option A) → ((a : A) → o ≡ some a → ⊥) → o ≡ none
none_of_not none f = refl
none_of_not (some a) f = absurd (f a refl)

-- ---- tests that follow from others

module _ {A : Type 0} where
  pub all_mono : (p q : A → Bool) (xs : List A) → ((x : A) → p x ≡ true → q x ≡ true) → all p xs ≡ true → all q xs ≡ true
  all_mono p q xs f h = all_complete q xs (λ x i. f x (all_sound p h i))

  pub any_of_all : (p q : A → Bool) (xs : List A) → ((x : A) → p x ≡ true → q x ≡ false) → all p xs ≡ true → any q xs ≡ false
  any_of_all p q xs f h = any_of_none q xs (λ x i. f x (all_sound p h i))

  pub any_append_of : (p : A → Bool) (xs ys : List A) → any p xs ≡ false → any p ys ≡ false → any p (xs ++ ys) ≡ false
  any_append_of p xs ys h k = rw (any_append p xs ys, h) k

  pub any_append_right : (p : A → Bool) (xs ys : List A) → any p (xs ++ ys) ≡ false → any p ys ≡ false
  any_append_right p xs ys h = or_right (any p xs) (any p ys) (rw (any_append p xs ys) at h)

-- ---- bytes

pub blank_of_gap : (b : ℕ) → is_gap b ≡ true → is_blank b ≡ true
blank_of_gap b h = rw h

-- a byte above the blanks
not_blank : (b : ℕ) → 33 ≤ b → is_blank b ≡ false
not_blank b h = rw (ne_eqb b 32 (omega arith), ne_eqb b 9 (omega arith), ne_eqb b 13 (omega arith), ne_eqb b 10 (omega arith))

pub digit_above : (b : ℕ) → is_digit b ≡ true → 48 ≤ b
digit_above b h = leb-true 48 b (and_left (leb 48 b) (leb b 57) h)

pub digit_most : (b : ℕ) → is_digit b ≡ true → b ≤ 57
digit_most b h = leb-true b 57 (and_right (leb 48 b) (leb b 57) h)

pub not_gap_of_digit : (b : ℕ) → is_digit b ≡ true → is_gap b ≡ false
not_gap_of_digit b h = rw (ne_eqb b 32 (omega (arith, digit_above b h)), ne_eqb b 9 (omega (arith, digit_above b h)))

pub not_lf_of_gap : (b : ℕ) → is_gap b ≡ true → is_lf b ≡ false
not_lf_of_gap b h = not-true (is_lf b) (λ e. never h (rw (eqb-true b 10 e)))

-- ---- numerals

pub numeral_sound : (ds : List ℕ) {n : ℕ} → is_numeral ds ≡ true → numeral ds ≡ n → Numeral ds n
numeral_sound ds h e =
    let two = and_right (all is_digit ds) (leb 1 (length ds) && leb (length ds) 9) h in
    record {
      digits = subst (Digits ds) e (digits_sound ds (and_left (all is_digit ds) (leb 1 (length ds) && leb (length ds) 9) h));
      some = leb-true 1 (length ds) (and_left (leb 1 (length ds)) (leb (length ds) 9) two);
      most = leb-true (length ds) 9 (and_right (leb 1 (length ds)) (leb (length ds) 9) two);
    }

pub numeral_digits : {ds : List ℕ} {n : ℕ} → Numeral ds n → all is_digit ds ≡ true
numeral_digits m = (digits_complete m.digits).0

pub numeral_says : {ds : List ℕ} {n : ℕ} → Numeral ds n → numeral ds ≡ n
numeral_says m = (digits_complete m.digits).1

pub numeral_complete : {ds : List ℕ} {n : ℕ} → Numeral ds n → is_numeral ds ≡ true
numeral_complete {ds} m = rw (numeral_digits m, le-leb 1 (length ds) m.some, le-leb (length ds) 9 m.most)

pub word_of_numeral : {ds : List ℕ} {n : ℕ} → Numeral ds n → Word is_blank ds
word_of_numeral {ds} m =
    record { some = m.some; none = any_of_all is_digit is_blank ds (λ b h. not_blank b (omega (arith, digit_above b h))) (numeral_digits m) }

-- ---- tokens

pub entry_sound : (w : List ℕ) {l : ℤ} → entry_of w ≡ some l → Token w l
unfolding entry_of
entry_sound [] h = absurd (not_none h refl)
entry_sound (b ∷ bs) {l} h = go (eqb b 45) refl h
  where
    negative : (n : ℕ) → numeral bs ≡ n → is_numeral bs ≡ true → negative_of n ≡ some l → Token (45 ∷ bs) l
    negative zero e m q = absurd (not_none q refl)
    negative (suc n) e m q = let r : negsuc n ≡ l = cc in rw (← r) (minus (numeral_sound bs m e))

    signed : (t : Bool) → is_numeral bs ≡ t → entry_if t (negative_of (numeral bs)) ≡ some l → Token (45 ∷ bs) l
    signed true m q = negative (numeral bs) refl m q
    signed false m q = absurd (not_none q refl)

    unsigned : (t : Bool) → is_numeral (b ∷ bs) ≡ t → entry_if t (some (pos (numeral (b ∷ bs)))) ≡ some l → Token (b ∷ bs) l
    unsigned true m q = let r : pos (numeral (b ∷ bs)) ≡ l = cc in rw (← r) (plain (numeral_sound (b ∷ bs) m refl))
    unsigned false m q = absurd (not_none q refl)

    go : (t : Bool) → eqb b 45 ≡ t → signed_if t b bs ≡ some l → Token (b ∷ bs) l
    go true e q = rw (eqb-true b 45 e) (signed (is_numeral bs) refl q)
    go false e q = unsigned (is_numeral (b ∷ bs)) refl q

pub entry_complete : {w : List ℕ} {l : ℤ} → Token w l → entry_of w ≡ some l
unfolding entry_of
entry_complete (plain {ds = []} m) = absurd (omega (arith, m.some))
entry_complete (plain {ds = b ∷ bs} {n} m) =
    rw (ne_eqb b 45 (omega (arith, digit_above b (and_left (is_digit b) (all is_digit bs) (numeral_digits m)))), numeral_complete m, numeral_says m)
entry_complete (minus m) = rw (numeral_complete m, numeral_says m)

pub entry_none : (w : List ℕ) → ((l : ℤ) → Token w l → ⊥) → entry_of w ≡ none
entry_none w f = none_of_not (entry_of w) (λ l e. f l (entry_sound w e))

pub word_of_token : {w : List ℕ} {l : ℤ} → Token w l → Word is_blank w
word_of_token (plain m) = word_of_numeral m
word_of_token (minus m) = record { some = omega arith; none = (word_of_numeral m).none }

pub percent_sound : {w : List ℕ} → is_percent w ≡ true → w ≡ 37 ∷ []
percent_sound {w} h = eqs_sound w (37 ∷ []) h

pub percent_none : {w : List ℕ} {l : ℤ} → w ≡ 37 ∷ [] → Token w l → ⊥
unfolding entry_of
percent_none e t = not_none (entry_complete t) (ap entry_of e)

pub token_not_percent : {w : List ℕ} {l : ℤ} → Token w l → is_percent w ≡ false
token_not_percent {w} t = not-true (is_percent w) (λ h. percent_none (percent_sound h) t)

-- ---- lines before the header

pub skipped_sound : (line : Piece) → is_skipped line ≡ true → NoLf line.bytes → Skipped line.bytes
skipped_sound line h n = go line.bytes h n
  where
    other : (b : ℕ) (bs : List ℕ) (t : Bool) → eqb b 99 ≡ t → (t || all is_blank (b ∷ bs)) ≡ true → NoLf (b ∷ bs) → Skipped (b ∷ bs)
    other b bs true e q n = rw (eqb-true b 99 e) (comment (no_lf_sound bs (or_right (is_lf b) (any is_lf bs) (no_lf_complete n))))
    other b bs false e q n = blanks (blanks_sound (b ∷ bs) q) n

    go : (bs : List ℕ) → (is_comment bs || all is_blank bs) ≡ true → NoLf bs → Skipped bs
    go [] q n = blanks (blanks_sound [] refl) n
    go (b ∷ bs) q n = other b bs (eqb b 99) refl q n

pub skipped_complete : {bs : List ℕ} (at : ℕ) → Skipped bs → is_skipped (record { at = at; bytes = bs }) ≡ true
skipped_complete at (blanks {bs} h n) = rw (blanks_complete h) (or-true (is_comment bs))
skipped_complete at (comment n) = refl
