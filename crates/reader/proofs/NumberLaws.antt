-- The laws of `number_of` (specs/Words): the loop of src/number.rt over its digits.
--
--   number_bad, number_good       what the answer says of the word
--   not_number_none, not_number_long, not_number_byte     a word of no byte or of ten, or with a byte that is no digit
--   Digits, digits_start, digits_step     the digits before index i say n; digits_small: below ten to the i
--   digits_done                   at the end n is what the word says
--
-- Assumes nothing.
use mathlib.Core.Path.{◌≡◌, refl}
use mathlib.Core.Bool.{Bool, true, false, and-false}
use mathlib.Core.List.{List, [], ◌∷◌}
use Prim.Native.Nat.{ℕ, ◌+◌, ◌-◌, ◌*◌, ◌^◌, ◌≤◌, ◌<◌}
use native.Mathlib.Nat.{pow-succ', pow-le-pow_right}
use native.Mathlib.Omega.{arith}
use native.Mathlib.Numerals.{add-one}
use borrow.Author.Tests.{le-leb, lt-leb}
use lib.Dec.{leb}
use lib.ListN.{length, get_or, drop, drop_of_length-le}
use lib.Seq.{drop-cons}
use Rattle.std.specs.Prelude.{None, Some}
use Rattle.rules.specs.Lists.{all}
use Rattle.texts.specs.Text.{is_digit, is_numeral, value_from, numeral}
use Rattle.rules.proofs.ListLaws.{apart}
use Rattle.texts.proofs.TokenLaws.{digit_above, digit_most}
use Rattle.reader.specs.Words.{number_if, number_of}

-- ---- what the answer says

pub number_bad : (word : List ℕ) → number_of word ≡ None → is_numeral word ≡ false
number_bad word e = go (is_numeral word) e
  where
    go : (t : Bool) → number_if t (numeral word) ≡ None → t ≡ false
    go true e = apart cc
    go false e = refl

pub number_good : (word : List ℕ) (n : ℕ) → number_of word ≡ Some n → (is_numeral word ≡ true) × (numeral word ≡ n)
number_good word n e = go (is_numeral word) e
  where
    go : (t : Bool) → number_if t (numeral word) ≡ Some n → (t ≡ true) × (numeral word ≡ n)
    go true e = (refl, cc)
    go false e = apart cc

pub not_number_none : (word : List ℕ) → length word ≡ 0 → None ≡ number_of word
not_number_none [] h = refl
not_number_none (b ∷ bs) h = absurd (omega arith)

pub not_number_long : (word : List ℕ) → 9 < length word → None ≡ number_of word
not_number_long word h = rw (lt-leb (length word) 9 h, and-false (leb 1 (length word)), and-false (all is_digit word))

-- ---- the loop

pub record Digits (word : List ℕ) (n i : ℕ) : Type 0 where
  pub within : i ≤ length word
  pub small : n < 10 ^ i
  pub digits : all is_digit (drop i word) ≡ all is_digit word
  pub value : value_from n (drop i word) ≡ numeral word

pub digits_start : (word : List ℕ) → Digits word 0 0
unfolding numeral
digits_start word = record { within = omega arith; small = omega arith; digits = refl; value = refl }

-- nine digits fit
pub digits_small : (word : List ℕ) (n i : ℕ) → Digits word n i → i < 9 → n < 100000000
digits_small word n i d h = omega (arith, d.small, pow-le-pow_right {n = 10} (omega arith) {i = i} {j = 8} (omega arith))

module _ (word : List ℕ) (n i : ℕ) (d : Digits word n i) (h : i < length word) where
  pub digits_step : is_digit (get_or word i 0) ≡ true → Digits word (10 * n + (get_or word i 0 - 48)) (i + 1)
  digits_step e = record {
    within = omega arith;
    small = rw (add-one i) (omega (arith, d.small, pow-succ' 10 i, digit_above (get_or word i 0) e, digit_most (get_or word i 0) e));
    digits = rw (add-one i) (rw (drop-cons word i 0 h, e) at d.digits);
    value = rw (add-one i) (rw (drop-cons word i 0 h) at d.value);
  }

  pub not_number_byte : is_digit (get_or word i 0) ≡ false → None ≡ number_of word
  not_number_byte e = let none : false ≡ all is_digit word = rw (drop-cons word i 0 h, e) at d.digits in rw (← none)

pub digits_done :
    (word : List ℕ) (n i : ℕ) → Digits word n i → length word ≤ i → (length word ≡ 0 → ⊥) → length word ≤ 9 →
    Some n ≡ number_of word
digits_done word n i d h some most =
    let each : true ≡ all is_digit word = rw (drop_of_length-le word h) at d.digits in
    let value : n ≡ numeral word = rw (drop_of_length-le word h) at d.value in
    rw (← each, le-leb 1 (length word) (omega arith), le-leb (length word) 9 most, value)
