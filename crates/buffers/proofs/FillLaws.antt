-- Filling a buffer, one element a turn.
--
--   Filled, filled_start, filled_step, filled_done     the loop that fills a buffer with a list of its length
--   copied_more       a copy of i bytes, and one more
--   part, get_d_part, length_part, part_done     the first i elements of one list, and the others of another one
--
-- Assumes nothing.
use mathlib.Core.Path.{◌≡◌, refl, sym, ◌∙◌, ap}
use mathlib.Core.List.{List, [], ◌∷◌, ◌++◌}
use Prim.Native.Nat.{ℕ, zero, suc, ◌+◌, ◌≤◌, ◌<◌}
use native.Mathlib.Omega.{arith}
use native.Mathlib.Numerals.{add-one}
use lib.ListN.{length, get_or, set, take, drop, length-set}
use lib.Seq.{take-suc, take-suc-set, take_all}

-- the first i elements are those of the target
pub record Filled {A : Type 0} (target : List A) (i : ℕ) (now : List A) : Type 0 where
  pub within : i ≤ length now
  pub len : length now ≡ length target
  pub front : take i now ≡ take i target

module _ {A : Type 0} where
  pub filled_start : (target now : List A) → length now ≡ length target → Filled target 0 now
  filled_start target now e = record { within = omega arith; len = e; front = refl }

  pub filled_step : {target now : List A} {i : ℕ} (d x : A) → Filled target i now → i < length now → get_or target i d ≡ x → Filled target (i + 1) (set now i x)
  filled_step {target} {now} {i} d x w h e =
      record {
        within = omega (arith, length-set now i x);
        len = length-set now i x ∙ w.len;
        front = rw add-one (take-suc-set now i x h ∙ ap (λ (xs : List A). xs ++ (x ∷ [])) w.front
            ∙ ap (λ (y : A). take i target ++ (y ∷ [])) (sym e) ∙ sym (take-suc target i d (omega (arith, w.len))));
      }

  pub filled_done : {target now : List A} {i : ℕ} → Filled target i now → length now ≤ i → now ≡ target
  filled_done {target} {now} {i} w h =
      sym (take_all i now h) ∙ w.front ∙ take_all i target (omega (arith, w.len))

-- ---- a copy

pub copied_more : (from to : List ℕ) (i : ℕ) → i < length from → i < length to
    → set (take i from ++ drop i to) i (get_or from i 0) ≡ take (i + 1) from ++ drop (i + 1) to
copied_more from to i h k = rw (add-one i) (go from to i h k)
  where
    go : (from to : List ℕ) (i : ℕ) → i < length from → i < length to
        → set (take i from ++ drop i to) i (get_or from i 0) ≡ take (suc i) from ++ drop (suc i) to
    go [] to i h k = absurd (omega arith)
    go (x ∷ xs) [] i h k = absurd (omega arith)
    go (x ∷ xs) (y ∷ ys) zero h k = refl
    go (x ∷ xs) (y ∷ ys) (suc i) h k = ap (λ (l : List ℕ). x ∷ l) (go xs ys i (omega arith) (omega arith))

-- ---- a buffer whose first i elements are those of another list

abbrev pub part : List ℕ → List ℕ → ℕ → List ℕ
part target before i = take i target ++ drop i before

pub get_d_part : (target before : List ℕ) (i : ℕ) → i < length target → i < length before → get_or (part target before i) i 0 ≡ get_or before i 0
get_d_part [] before i h k = absurd (omega arith)
get_d_part (x ∷ xs) [] i h k = absurd (omega arith)
get_d_part (x ∷ xs) (y ∷ ys) zero h k = refl
get_d_part (x ∷ xs) (y ∷ ys) (suc i) h k = get_d_part xs ys i (omega arith) (omega arith)

pub length_part : (target before : List ℕ) (i : ℕ) → length target ≡ length before → length (part target before i) ≡ length before
length_part target before zero e = refl
length_part [] [] (suc i) e = refl
length_part [] (y ∷ ys) (suc i) e = absurd (omega arith)
length_part (x ∷ xs) [] (suc i) e = absurd (omega arith)
length_part (x ∷ xs) (y ∷ ys) (suc i) e = ap suc (length_part xs ys i (omega arith))

pub part_done : (target before : List ℕ) (i : ℕ) → length target ≡ length before → length before ≤ i → part target before i ≡ target
part_done [] [] zero e h = refl
part_done [] [] (suc i) e h = refl
part_done [] (y ∷ ys) i e h = absurd (omega arith)
part_done (x ∷ xs) [] i e h = absurd (omega arith)
part_done (x ∷ xs) (y ∷ ys) zero e h = absurd (omega arith)
part_done (x ∷ xs) (y ∷ ys) (suc i) e h = ap (λ (l : List ℕ). x ∷ l) (part_done xs ys i (omega arith) (omega arith))
