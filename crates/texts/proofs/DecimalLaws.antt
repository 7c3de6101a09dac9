-- The laws of `decimal` of specs/Plain: its equations with no fuel in them, and from these, by one induction, that it gives
-- digits which say the number, how many, and that two numbers have two numerals.
--
--   decimal_small, decimal_more   the equations: one digit below 10, else the last digit behind those of n / 10
--   decimal_ind                   what holds of one digit, and of one digit more, holds of every number's digits
--   decimal_digits                each byte is a digit
--   decimal_some                  there is a digit
--   decimal_most                  below 10 to the k there are at most k digits
--   decimal_vars, decimal-clauses, decimal_tries     at most 3 up to 256, 4 up to 1,024, 10 up to 4,294,967,295
--   value_from_snoc                one digit behind others: ten times what they say, and the digit
--   numeral-decimal, decimal_inj  the digits of n say n, so n alone has them
--
-- Assumes nothing.
use mathlib.Core.Path.{◌≡◌, refl, sym, ◌∙◌, ap}
use mathlib.Core.Bool.{true}
use mathlib.Core.List.{List, [], ◌∷◌, ◌++◌}
use Prim.Native.Nat.{ℕ, zero, suc, ◌+◌, ◌-◌, ◌*◌, ◌/◌, ◌%◌, ◌^◌, ◌≤◌, ◌<◌}
use native.Mathlib.Decide.{dec_lt}
use native.Mathlib.Nat.{pow-succ'}
use native.Mathlib.Omega.{arith}
use lib.ListN.{length, length-append}
use borrow.Author.Tests.{lt-ltb, le-ltb, le-leb}
use Rattle.rules.specs.Lists.{all}
use Rattle.rules.specs.Numbers.{max_vars, max_clauses}
use Rattle.texts.specs.Text.{is_digit, value_from, numeral}
use Rattle.texts.specs.Plain.{digit, decimal_in, decimal}
use Rattle.rules.proofs.ListLaws.{all_append_of}

-- ---- the equations

decimal_in_small : (k n : ℕ) → n < 10 → decimal_in k n ≡ digit n ∷ []
unfolding decimal_in
decimal_in_small zero n h = ap (λ (m : ℕ). digit m ∷ []) (omega arith)
decimal_in_small (suc k) n h = rw (lt-ltb n 10 h)

decimal_in_more : (k n : ℕ) → 10 ≤ n → decimal_in (suc k) n ≡ decimal_in k (n / 10) ++ (digit (n % 10) ∷ [])
unfolding decimal_in
decimal_in_more k n h = rw (le-ltb n 10 h)

-- fuel up to n is enough
decimal_in_fuel : (k j n : ℕ) → n ≤ k → n ≤ j → decimal_in k n ≡ decimal_in j n
decimal_in_fuel zero j n h l = decimal_in_small 0 n (omega arith) ∙ sym (decimal_in_small j n (omega arith))
decimal_in_fuel (suc k) zero n h l = decimal_in_small (suc k) n (omega arith) ∙ sym (decimal_in_small 0 n (omega arith))
decimal_in_fuel (suc k) (suc j) n h l = go (dec_lt n 10) (λ m. decimal_in_fuel k j (n / 10) (omega arith) (omega arith))
  where
    go : Dec (n < 10) → (10 ≤ n → decimal_in k (n / 10) ≡ decimal_in j (n / 10)) → decimal_in (suc k) n ≡ decimal_in (suc j) n
    go (yes s) ih = decimal_in_small (suc k) n s ∙ sym (decimal_in_small (suc j) n s)
    go (no m) ih =
        decimal_in_more k n (omega arith) ∙
        ap (λ (ds : List ℕ). ds ++ (digit (n % 10) ∷ [])) (ih (omega arith)) ∙
        sym (decimal_in_more j n (omega arith))

pub decimal_small : (n : ℕ) → n < 10 → decimal n ≡ digit n ∷ []
unfolding decimal
decimal_small n h = decimal_in_small n n h

pub decimal_more : (n : ℕ) → 10 ≤ n → decimal n ≡ decimal (n / 10) ++ (digit (n % 10) ∷ [])
unfolding decimal
decimal_more n h =
    decimal_in_fuel n (suc n) n (omega arith) (omega arith) ∙
    decimal_in_more n n h ∙
    ap (λ (ds : List ℕ). ds ++ (digit (n % 10) ∷ [])) (decimal_in_fuel n (n / 10) (n / 10) (omega arith) (omega arith))

-- ---- induction over the digits

module _ (P : ℕ → List ℕ → Type 0)
    (one : (n : ℕ) → n < 10 → P n (digit n ∷ []))
    (more : (n : ℕ) (ds : List ℕ) → 10 ≤ n → P (n / 10) ds → P n (ds ++ (digit (n % 10) ∷ []))) where
  decimal_ind_upto : (k n : ℕ) → n ≤ k → P n (decimal n)
  decimal_ind_upto zero n h = rw (decimal_small n (omega arith)) (one n (omega arith))
  decimal_ind_upto (suc k) n h = go (dec_lt n 10) (λ m. decimal_ind_upto k (n / 10) (omega arith))
    where
      go : Dec (n < 10) → (10 ≤ n → P (n / 10) (decimal (n / 10))) → P n (decimal n)
      go (yes s) ih = rw (decimal_small n s) (one n s)
      go (no m) ih = rw (decimal_more n (omega arith)) (more n (decimal (n / 10)) (omega arith) (ih (omega arith)))

  pub decimal_ind : (n : ℕ) → P n (decimal n)
  decimal_ind n = decimal_ind_upto n n (omega arith)

-- ---- the digits

one_digit : (n : ℕ) → n < 10 → all is_digit (digit n ∷ []) ≡ true
one_digit n h = rw (le-leb 48 (48 + n) (omega arith), le-leb (48 + n) 57 (omega arith))

pub decimal_digits : (n : ℕ) → all is_digit (decimal n) ≡ true
decimal_digits =
    decimal_ind
    (λ n ds. all is_digit ds ≡ true)
    one_digit
    (λ n ds h ih. all_append_of is_digit ds (digit (n % 10) ∷ []) ih (one_digit (n % 10) (omega arith)))

-- ---- how many

pub decimal_some : (n : ℕ) → 1 ≤ length (decimal n)
decimal_some =
    decimal_ind
    (λ n ds. 1 ≤ length ds)
    (λ n h. omega arith)
    (λ n ds h ih. omega (arith, length-append ds (digit (n % 10) ∷ [])))

pub decimal_most : (k n : ℕ) → 1 ≤ k → n < 10 ^ k → length (decimal n) ≤ k
decimal_most k n p h = decimal_ind (λ m ds. (j : ℕ) → 1 ≤ j → m < 10 ^ j → length ds ≤ j) (λ m s j q l. q) more n k p h
  where
    more : (m : ℕ) (ds : List ℕ) → 10 ≤ m → ((j : ℕ) → 1 ≤ j → m / 10 < 10 ^ j → length ds ≤ j)
        → (j : ℕ) → 1 ≤ j → m < 10 ^ j → length (ds ++ (digit (m % 10) ∷ [])) ≤ j
    more m ds s ih zero q l = absurd (omega arith)
    more m ds s ih (suc zero) q l = absurd (omega arith)
    more m ds s ih (suc (suc j)) q l =
        omega
        (arith, length-append ds (digit (m % 10) ∷ []), ih (suc j) (omega arith) (omega (arith, pow-succ' 10 (suc j))))

pub decimal_vars : (n : ℕ) → n ≤ max_vars → length (decimal n) ≤ 3
decimal_vars n h = decimal_most 3 n (omega arith) (omega arith)

pub decimal-clauses : (n : ℕ) → n ≤ max_clauses → length (decimal n) ≤ 4
decimal-clauses n h = decimal_most 4 n (omega arith) (omega arith)

pub decimal_tries : (n : ℕ) → n ≤ 4294967295 → length (decimal n) ≤ 10
decimal_tries n h = decimal_most 10 n (omega arith) (omega arith)

-- ---- what they say

pub value_from_snoc : (n : ℕ) (ds : List ℕ) (d : ℕ) → value_from n (ds ++ (d ∷ [])) ≡ 10 * value_from n ds + (d - 48)
value_from_snoc n [] d = refl
value_from_snoc n (b ∷ ds) d = value_from_snoc (10 * n + (b - 48)) ds d

pub numeral-decimal : (n : ℕ) → numeral (decimal n) ≡ n
unfolding numeral
numeral-decimal =
    decimal_ind
    (λ n ds. numeral ds ≡ n)
    (λ n h. omega arith)
    (λ n ds h ih. omega (arith, value_from_snoc 0 ds (digit (n % 10))))

pub decimal_inj : (m n : ℕ) → decimal m ≡ decimal n → m ≡ n
decimal_inj m n e = sym (numeral-decimal m) ∙ ap numeral e ∙ numeral-decimal n
