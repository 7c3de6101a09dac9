-- The elements of a list that pass, counted one by one: the bytes of a buffer that are not 0, and others.
--
--   count_is          the bytes that are not 0, as the library counts them
--   Counting, counting_start, counting_step, counting_done     those before i, and with the others all
--
-- Assumes nothing.
use mathlib.Core.Path.{◌≡◌, refl, sym, ap}
use mathlib.Core.Bool.{Bool, true, false}
use mathlib.Core.List.{List, ◌∷◌}
use Rattle.std.specs.Prelude.{not, cond, nat_eq}
use Rattle.std.proofs.lemmas.List.Recursion.{is_count_by}
use Rattle.std.specs.List.{count_by}
use Prim.Native.Nat.{ℕ, zero, suc, ◌+◌, ◌≤◌, ◌<◌}
use native.Mathlib.Omega.{arith}
use native.Mathlib.Numerals.{add-one}
use lib.Dec.{eqb-suc-zero}
use lib.ListN.{length, get_or, drop, drop_of_length-le}
use lib.Seq.{drop-cons}
use Rattle.rules.specs.Lists.{is_set, count, count_if}

-- those before i, and with the others all
pub record Counting {A : Type 0} (p : A → Bool) (xs : List A) (i n : ℕ) : Type 0 where
  pub within : i ≤ length xs
  pub fewer : n ≤ i
  pub rest : n + count p (drop i xs) ≡ count p xs

-- the bytes that are not 0, as the library counts them
pub count_is : (bs : List ℕ) → count_by (λ b. not (nat_eq b 0)) bs ≡ count is_set bs
count_is bs = sym (is_count_by (count is_set) (λ b. not (nat_eq b 0)) refl step bs)
  where
    step : (b : ℕ) (bs : List ℕ) → count is_set (b ∷ bs) ≡ cond (not (nat_eq b 0)) (1 + count is_set bs) (count is_set bs)
    step zero bs = refl
    step (suc b) bs = rw (eqb-suc-zero b) (omega arith)

module _ {A : Type 0} {p : A → Bool} where
  pub counting_start : (xs : List A) → Counting p xs 0 0
  counting_start xs = record { within = omega arith; fewer = omega arith; rest = omega arith }

  pub counting_step : {xs : List A} {i n n' : ℕ} (d : A) → Counting p xs i n → i < length xs → n' ≡ count_if (p (get_or xs i d)) n
      → Counting p xs (i + 1) n'
  counting_step {xs} {i} {n} {n'} d w h e = rw add-one (go (p (get_or xs i d)) e (sym (ap (count p) (drop-cons xs i d h))))
    where
      go : (b : Bool) → n' ≡ count_if b n → count_if b (count p (drop (suc i) xs)) ≡ count p (drop i xs) → Counting p xs (suc i) n'
      go true e f = record { within = omega arith; fewer = omega (arith, w.fewer, e); rest = omega (arith, w.rest, e, f) }
      go false e f = record { within = omega arith; fewer = omega (arith, w.fewer, e); rest = omega (arith, w.rest, e, f) }

  pub counting_done : {xs : List A} {i n : ℕ} → Counting p xs i n → length xs ≤ i → n ≡ count p xs
  counting_done {xs} {i} {n} w h = omega (arith, w.rest, ap (count p) (drop_of_length-le xs h))
