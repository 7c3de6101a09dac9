-- The laws of `refuse`: the loops that look for an entry, and the last entry.
--
--   found_within, none_within, position_within     the index of the entry that passes as the nth one, if there is one
--   Seek     the loop that looks for the entry that passes as the nth one
--   is_zero_bits     an entry is 0 if its bits are
--   is_ended_read     the last entry, as code reads it
--
-- Assumes nothing.
use mathlib.Core.Path.{◌≡◌, refl, sym, ◌∙◌, ap}
use mathlib.Core.Logic.{◌≢◌}
use mathlib.Core.Bool.{Bool, true, false}
use mathlib.Core.List.{List, [], ◌∷◌}
use Prim.Native.Nat.{ℕ, suc, ◌+◌, ◌-◌, ◌≤◌, ◌<◌, ◌^◌}
use native.Mathlib.Omega.{arith}
use native.Mathlib.Numerals.{one-add}
use lib.IntN.{ℤ, pos}
use lib.Dec.{eqb, ltb, lit<}
use lib.Signed.{mag}
use lib.ListN.{length, get_or, drop}
use mir.Syntax.{w32}
use mir.Val.{of_z}
use borrow.Author.Tests.{eqb-true, eq-eqb, ltb-true, ltb-false}
use Rattle.std.specs.Prelude.{Some, None, cond, position}
use Rattle.std.proofs.lemmas.List.Recursion.{is_position_or_len}
use Rattle.refusals.specs.Refuse.{nth_within}
use Rattle.rules.specs.Lists.{index_if, nth_index, is_zero}
use Rattle.rules.specs.Answer.{is_ended}
use Rattle.rules.proofs.ListLaws.{same_test, eqz_sound, eqz_complete}
use Rattle.formula.proofs.SignedLaws.{of_z_inj}

-- ---- the index of an entry, if there is one

-- what is found is the index, within the list
pub found_within : (p : ℤ → Bool) (es : List ℤ) (n i : ℕ) → nth_within p es n ≡ Some i → (i ≡ nth_index p es n) × (nth_index p es n < length es)
found_within p es n i e = go (ltb (nth_index p es n) (length es)) refl e
  where
    go : (b : Bool) → ltb (nth_index p es n) (length es) ≡ b → cond b (Some (nth_index p es n)) None ≡ Some i
        → (i ≡ nth_index p es n) × (nth_index p es n < length es)
    go true t q = (cc, ltb-true _ _ t)
    go false t q = cc

pub none_within : (p : ℤ → Bool) (es : List ℤ) (n : ℕ) → nth_within p es n ≡ None → length es ≤ nth_index p es n
none_within p es n e = go (ltb (nth_index p es n) (length es)) refl e
  where
    go : (b : Bool) → ltb (nth_index p es n) (length es) ≡ b → cond b (Some (nth_index p es n)) None ≡ None → length es ≤ nth_index p es n
    go true t q = cc
    go false t q = ltb-false _ _ t

-- the library's `position` is the index of the first entry that passes
pub position_within : (p : ℤ → Bool) (es : List ℤ) → position p es ≡ nth_within p es 0
position_within p es =
    ap (λ (n : ℕ). cond (ltb n (length es)) (Some n) None)
    (sym (is_position_or_len (λ (xs : List ℤ). nth_index p xs 0) p refl (λ x xs. step (p x) xs) es))
  where
    step : (b : Bool) (xs : List ℤ) → index_if b 0 (λ k. nth_index p xs k) ≡ cond b 0 (1 + nth_index p xs 0)
    step true xs = refl
    step false xs = sym (one-add (nth_index p xs 0))

-- ---- looking for an entry

pub record Seek (p : ℤ → Bool) (es : List ℤ) (n left i : ℕ) : Type 0 where
  pub within : i ≤ length es
  pub same : i + nth_index p (drop i es) left ≡ nth_index p es n

-- ---- an entry's bits

zero_of_bits : (z : ℤ) → mag z < 2 ^ 31 → of_z w32 z ≡ 0 → z ≡ pos 0
zero_of_bits z f e = of_z_inj f (lit< tt) e

pub is_zero_bits : (z : ℤ) → mag z < 2 ^ 31 → eqb (of_z w32 z) 0 ≡ is_zero z
is_zero_bits z f =
    same_test (eqb (of_z w32 z) 0) (is_zero z) (λ e. eqz_complete z (pos 0) (zero_of_bits z f (eqb-true _ _ e)))
    (λ e. eq-eqb (of_z w32 z) 0 (ap (of_z w32) (eqz_sound z (pos 0) e)))

-- the last entry, as the library's `last` has it
pub is_ended_read : (es : List ℤ) → length es ≢ 0 → is_zero (get_or es (length es - 1) (pos 0)) ≡ is_ended es
is_ended_read [] n = absurd (n refl)
is_ended_read (e ∷ []) n = refl
is_ended_read (e ∷ f ∷ es) n =
    let q : length (e ∷ f ∷ es) - 1 ≡ suc (length (f ∷ es) - 1) = omega arith in
    ap (λ (k : ℕ). is_zero (get_or (e ∷ f ∷ es) k (pos 0))) q ∙ is_ended_read (f ∷ es) (omega arith)
