-- The bytes, digits and zeros of specs/Grammar against the tests that the reader makes of them (specs/Text, specs/Reading), and which of
-- the 256 bytes pass each test, computed.
--
--   byte_table                    the blanks, gaps, digits, LF and the first byte of a comment, among all bytes
--   blank_sound, blank_complete, gap_sound, gap_complete     one byte
--   blanks_sound, blanks_complete, gaps_sound, gaps_complete     lists of blanks, gaps between words
--   no_lf_sound, no_lf_complete     a list with no LF
--   digits_sound, digits_complete     digits and the number that they say
--   no_zero_sound, no_zero_complete     entries with no closing zero
--
-- Assumes nothing.
use mathlib.Core.Path.{◌≡◌, refl, sym, subst}
use mathlib.Core.Logic.{◌⊎◌, inl, inr}
use mathlib.Core.Bool.{true, false, ◌||◌}
use mathlib.Core.List.{List, [], ◌∷◌, ◌++◌, append-nil, append_assoc}
use Prim.Native.Nat.{ℕ, zero, suc, ◌+◌, ◌-◌, ◌*◌, ◌≤◌}
use native.Mathlib.Omega.{arith}
use lib.Dec.{eqb, leb}
use lib.IntN.{ℤ, pos}
use lib.ListN.{length}
use borrow.Author.Tests.{eqb-true, leb-true, le-leb}
use Rattle.rules.specs.Lists.{In, any, all, keep, is_zero}
use Rattle.texts.specs.Text.{is_lf, is_gap, is_blank, is_digit, value_from, numeral, is_comment}
use Rattle.texts.specs.Grammar.{IsBlank, IsGap, Blanks, NoLf, Gap, Digits, no_digits, digit_behind}
use Rattle.rules.proofs.Quoted.{quoted}
use Rattle.rules.proofs.ListLaws.{never, not-true, and_left, and_right, any_of_none, none_of_any}
use Rattle.rules.proofs.ListLaws.{all_sound, all_complete, all_append_of, eqz_sound, or_cases}
use Rattle.texts.proofs.DecimalLaws.{value_from_snoc}

-- ---- all bytes

-- n numbers from i on
abbrev up_from : ℕ → ℕ → List ℕ
up_from i zero = []
up_from i (suc n) = i ∷ up_from (suc i) n

abbrev pub bytes : List ℕ
bytes = up_from 0 256

pub byte_table : (keep is_blank bytes ≡ quoted "\t\n\r ") × (keep is_gap bytes ≡ quoted "\t ") × (keep is_lf bytes ≡ quoted "\n")
    × (keep is_digit bytes ≡ quoted "0123456789") × (keep (λ b. is_comment (b ∷ [])) bytes ≡ quoted "c")
byte_table = (refl, refl, refl, refl, refl)

-- ---- one byte

pub gap_sound : (b : ℕ) → is_gap b ≡ true → IsGap b
gap_sound b h = go (or_cases (eqb b 32) (eqb b 9) h)
  where
    go : (eqb b 32 ≡ true) ⊎ (eqb b 9 ≡ true) → IsGap b
    go (inl e) = subst IsGap (sym (eqb-true b 32 e)) IsGap.space
    go (inr e) = subst IsGap (sym (eqb-true b 9 e)) IsGap.tab

pub gap_complete : {b : ℕ} → IsGap b → is_gap b ≡ true
gap_complete IsGap.space = refl
gap_complete IsGap.tab = refl

blank_of_is_gap : {b : ℕ} → IsGap b → IsBlank b
blank_of_is_gap IsGap.space = IsBlank.space
blank_of_is_gap IsGap.tab = IsBlank.tab

pub blank_sound : (b : ℕ) → is_blank b ≡ true → IsBlank b
blank_sound b h = go (or_cases (is_gap b) (eqb b 13 || is_lf b) h)
  where
    ends : (eqb b 13 ≡ true) ⊎ (is_lf b ≡ true) → IsBlank b
    ends (inl e) = subst IsBlank (sym (eqb-true b 13 e)) IsBlank.cr
    ends (inr e) = subst IsBlank (sym (eqb-true b 10 e)) IsBlank.lf

    go : (is_gap b ≡ true) ⊎ ((eqb b 13 || is_lf b) ≡ true) → IsBlank b
    go (inl e) = blank_of_is_gap (gap_sound b e)
    go (inr e) = ends (or_cases (eqb b 13) (is_lf b) e)

pub blank_complete : {b : ℕ} → IsBlank b → is_blank b ≡ true
blank_complete IsBlank.space = refl
blank_complete IsBlank.tab = refl
blank_complete IsBlank.cr = refl
blank_complete IsBlank.lf = refl

-- ---- lists of bytes

pub blanks_sound : (bs : List ℕ) → all is_blank bs ≡ true → Blanks bs
blanks_sound bs h = record { each = λ b i. blank_sound b (all_sound is_blank h i) }

pub blanks_complete : {bs : List ℕ} → Blanks bs → all is_blank bs ≡ true
blanks_complete {bs} s = all_complete is_blank bs (λ b i. blank_complete (s.each b i))

pub gaps_sound : (bs : List ℕ) → 1 ≤ length bs → all is_gap bs ≡ true → Gap bs
gaps_sound bs n h = record { some = n; each = λ b i. gap_sound b (all_sound is_gap h i) }

pub gaps_complete : {bs : List ℕ} → Gap bs → all is_gap bs ≡ true
gaps_complete {bs} s = all_complete is_gap bs (λ b i. gap_complete (s.each b i))

pub no_lf_sound : (bs : List ℕ) → any is_lf bs ≡ false → NoLf bs
no_lf_sound bs h = record { none = λ i. never {b = is_lf 10} refl (none_of_any is_lf h i) }

pub no_lf_complete : {bs : List ℕ} → NoLf bs → any is_lf bs ≡ false
no_lf_complete {bs} n =
    any_of_none is_lf bs (λ b i. not-true (is_lf b) (λ e. n.none (subst (λ (x : ℕ). In x bs) (eqb-true b 10 e) i)))

-- ---- digits

-- one more digit
digit_more : {front : List ℕ} {n : ℕ} (d : ℕ) → Digits front n → is_digit d ≡ true → Digits (front ++ d ∷ []) (10 * n + (d - 48))
digit_more {front} {n} d s h =
    let least : 48 ≤ d = leb-true 48 d (and_left (leb 48 d) (leb d 57) h) in
    let most : d ≤ 57 = leb-true d 57 (and_right (leb 48 d) (leb d 57) h) in
    subst (λ (b : ℕ). Digits (front ++ b ∷ []) (10 * n + (d - 48))) (omega arith) (digit_behind (d - 48) s (omega arith))

digits_from : (front : List ℕ) {n : ℕ} (ds : List ℕ) → Digits front n → all is_digit ds ≡ true → Digits (front ++ ds) (value_from n ds)
digits_from front [] s h = rw (append-nil front) s
digits_from front {n} (d ∷ ds) s h =
    subst (λ (xs : List ℕ). Digits xs (value_from n (d ∷ ds))) (append_assoc front (d ∷ []) ds)
    (digits_from (front ++ d ∷ []) ds (digit_more d s (and_left (is_digit d) (all is_digit ds) h)) (and_right (is_digit d) (all is_digit ds) h))

pub digits_sound : (ds : List ℕ) → all is_digit ds ≡ true → Digits ds (numeral ds)
unfolding numeral
digits_sound ds h = digits_from [] ds no_digits h

pub digits_complete : {ds : List ℕ} {n : ℕ} → Digits ds n → (all is_digit ds ≡ true) × (numeral ds ≡ n)
unfolding numeral
digits_complete no_digits = (refl, refl)
digits_complete (digit_behind {ds} d s h) =
    let (each, says) = digits_complete s in
    let one : all is_digit ((48 + d) ∷ []) ≡ true = rw (le-leb 48 (48 + d) (omega arith), le-leb (48 + d) 57 (omega arith)) in
    (all_append_of is_digit ds ((48 + d) ∷ []) each one, omega (arith, value_from_snoc 0 ds (48 + d), says))

-- ---- zeros

pub no_zero_sound : (cl : List ℤ) → any is_zero cl ≡ false → In (pos 0) cl → ⊥
no_zero_sound cl h i = never {b = is_zero (pos 0)} refl (none_of_any is_zero h i)

pub no_zero_complete : (cl : List ℤ) → (In (pos 0) cl → ⊥) → any is_zero cl ≡ false
no_zero_complete cl f =
    any_of_none is_zero cl (λ l i. not-true (is_zero l) (λ e. f (subst (λ (x : ℤ). In x cl) (eqz_sound l (pos 0) e) i)))
