-- The laws of specs/Keys: how the two numbers of a clause change with the values.
--
--   count_more                    a test that passes one literal more counts one more in the clauses that hold it
--
-- Assumes nothing.
use mathlib.Core.Path.{◌≡◌, refl, sym, ◌∙◌, ap}
use mathlib.Core.Logic.{◌≢◌, ◌⊎◌, inl, inr, ⊎_elim}
use mathlib.Core.Bool.{Bool, true, false, not, ◌||◌, or-true}
use mathlib.Core.List.Memᴰ
use mathlib.Core.List.{[], ◌∷◌}
use Prim.Native.Nat.{ℕ, zero, suc, ◌≤◌}
use native.Mathlib.Omega.{arith}
use lib.Dec.{eqb}
use lib.IntN.{ℤ, pos, negsuc}
use lib.ListN.{length}
use borrow.Author.Tests.{eqb-true, eq-eqb, ne_eqb}
use Rattle.rules.specs.Lists.{In, count, count_if, keep_if, eqz}
use Rattle.rules.specs.Meaning.{Clause, Values, var_of, negated, index_of, true_byte, value_at, assign, is_true, is_unset}
use Rattle.rules.proofs.ListLaws.{eqz_sound, eqz_refl, eqz_complete, eqz_other, never, count_le}
use Rattle.rules.proofs.MeaningLaws.{set_cases, value_at-set_same, true_byte-set, is_true-assign, is_unset_of_is_true}
use Rattle.board.specs.Keys.{holds, distinct, true_count, unset_count}

or-false : (b : Bool) → (b || false) ≡ b
or-false true = refl
or-false false = refl

count_if_swap : (a b : Bool) (n : ℕ) → count_if a (count_if b n) ≡ count_if b (count_if a n)
count_if_swap true true n = refl
count_if_swap true false n = refl
count_if_swap false b n = refl

module _ (p q : ℤ → Bool) (l : ℤ) (out : p l ≡ false) (now-in : q l ≡ true) where
  pub count_more : (cl : Clause) → ((k : ℤ) → In k cl → k ≢ l → p k ≡ q k)
      → count q (distinct cl) ≡ count_if (holds l cl) (count p (distinct cl))
  count_more [] same = refl
  count_more (k ∷ cl) same =
      go (eqz l k) refl (holds k cl) refl (count_more cl (λ j i. same j (Memᴰ.tail i))) (same k (Memᴰ.head refl))
    where
      go : (b : Bool) → eqz l k ≡ b → (h : Bool) → holds k cl ≡ h → count q (distinct cl) ≡ count_if (holds l cl) (count p (distinct cl))
          → (k ≢ l → p k ≡ q k)
          → count q (keep_if (not h) k (distinct cl)) ≡ count_if (b || holds l cl) (count p (keep_if (not h) k (distinct cl)))
      go true e true g ih s = let h : holds l cl ≡ true = rw (eqz_sound l k e) g in rw h at ih
      go true e false g ih s =
          let at : l ≡ k = eqz_sound l k e in
          let h : holds l cl ≡ false = rw at g in
          let a : p k ≡ false = ap p (sym at) ∙ out in
          let b : q k ≡ true = ap q (sym at) ∙ now-in in
          rw (a, b) (ap suc (rw h at ih))
      go false e true g ih s = ih
      go false e false g ih s =
          let other : k ≢ l = λ t. never (eqz_complete l k (sym t)) e in
          rw (← s other, ih) (count_if_swap (p k) (holds l cl) (count p (distinct cl)))

-- a test that no literal passes
pub count_none : (p : ℤ → Bool) (cl : Clause) → ((k : ℤ) → In k cl → p k ≡ false) → count p (distinct cl) ≡ 0
count_none p [] h = refl
count_none p (l ∷ cl) h = go (holds l cl) (count_none p cl (λ k i. h k (Memᴰ.tail i)))
  where
    go : (b : Bool) → count p (distinct cl) ≡ 0 → count p (keep_if (not b) l (distinct cl)) ≡ 0
    go true e = e
    go false e = rw (h l (Memᴰ.head refl)) e

-- ---- a literal and its negation

pub same_index : (k l : ℤ) → 1 ≤ var_of k → 1 ≤ var_of l → index_of k ≡ index_of l → (k ≡ l) ⊎ (k ≡ negated l)
same_index (pos zero) l h g e = absurd (omega arith)
same_index (pos (suc m)) (pos zero) h g e = absurd (omega arith)
same_index (pos (suc m)) (pos (suc n)) h g e = inl (ap (λ (i : ℕ). pos (suc i)) e)
same_index (pos (suc m)) (negsuc n) h g e = inr (ap (λ (i : ℕ). pos (suc i)) e)
same_index (negsuc m) (pos zero) h g e = absurd (omega arith)
same_index (negsuc m) (pos (suc n)) h g e = inr (ap negsuc e)
same_index (negsuc m) (negsuc n) h g e = inl (ap negsuc e)

pub index_of-negated : (l : ℤ) → 1 ≤ var_of l → index_of (negated l) ≡ index_of l
index_of-negated (pos zero) h = absurd (omega arith)
index_of-negated (pos (suc n)) h = refl
index_of-negated (negsuc n) h = refl

pub var_of-negated : (l : ℤ) → var_of (negated l) ≡ var_of l
var_of-negated (pos zero) = refl
var_of-negated (pos (suc n)) = refl
var_of-negated (negsuc n) = refl

pub true_byte-negated : (l : ℤ) → 1 ≤ var_of l → true_byte (negated l) ≢ true_byte l
true_byte-negated (pos zero) h = absurd (omega arith)
true_byte-negated (pos (suc n)) h = omega arith
true_byte-negated (negsuc n) h = omega arith

-- ---- one literal is made true

module _ (vs : Values) (l : ℤ) (u : is_unset vs l ≡ true) (h : 1 ≤ var_of l) where
  zero_there : value_at vs (index_of l) ≡ 0
  zero_there = eqb-true _ _ u

  byte_there : value_at (assign vs l) (index_of l) ≡ true_byte l
  byte_there = value_at-set_same vs (index_of l) (true_byte l) zero_there

  index_negated : index_of (negated l) ≡ index_of l
  index_negated = index_of-negated l h

  -- a literal of another variable keeps its byte
  kept_else : (k : ℤ) → 1 ≤ var_of k → k ≢ l → k ≢ negated l → value_at (assign vs l) (index_of k) ≡ value_at vs (index_of k)
  kept_else k g a b = go (set_cases vs (index_of l) (true_byte l) (index_of k))
    where
      go : ((index_of k ≡ index_of l) × (value_at (assign vs l) (index_of k) ≡ true_byte l)) ⊎ (value_at (assign vs l) (index_of k) ≡ value_at vs (index_of k))
          → value_at (assign vs l) (index_of k) ≡ value_at vs (index_of k)
      go (inl e) = absurd (⊎_elim a b (same_index k l g h e.0))
      go (inr e) = e

  true_before : is_true vs l ≡ false
  true_before = ne_eqb _ _ (λ e. true_byte-set l (sym e ∙ zero_there))

  true_other : (k : ℤ) → 1 ≤ var_of k → k ≢ l → is_true vs k ≡ is_true (assign vs l) k
  true_other k g a = go (eqz k (negated l)) refl
    where
      go : (b : Bool) → eqz k (negated l) ≡ b → is_true vs k ≡ is_true (assign vs l) k
      go true e =
          let t : k ≡ negated l = eqz_sound k (negated l) e in
          let i : index_of k ≡ index_of l = ap index_of t ∙ index_negated in
          ne_eqb _ _ (λ x. true_byte-set k (sym x ∙ ap (value_at vs) i ∙ zero_there)) ∙
          sym (ne_eqb _ _ (λ x. true_byte-negated l h (sym (ap true_byte t) ∙ sym x ∙ ap (value_at (assign vs l)) i ∙ byte_there)))
      go false e = ap (λ (x : ℕ). eqb x (true_byte k)) (sym (kept_else k g a (λ t. never (eqz_complete k (negated l) t) e)))

  -- who holds l has one true literal more
  pub true_count_assign : (cl : Clause) → ((k : ℤ) → In k cl → 1 ≤ var_of k) → true_count (assign vs l) cl ≡ count_if (holds l cl) (true_count vs cl)
  unfolding true_count
  true_count_assign cl some =
      count_more (is_true vs) (is_true (assign vs l)) l true_before (is_true-assign vs l u) cl (λ k i a. true_other k (some k i) a)

  -- unset afterwards, or the negation of l: l alone is less than before
  abbrev unset_or : ℤ → Bool
  unset_or k = is_unset (assign vs l) k || eqz k (negated l)

  set-negated : is_unset (assign vs l) (negated l) ≡ false
  set-negated = ne_eqb _ _ (λ x. true_byte-set l (sym byte_there ∙ ap (value_at (assign vs l)) (sym index_negated) ∙ x))

  or_negated : unset_or (negated l) ≡ true
  or_negated = rw (eqz_refl (negated l)) (or-true (is_unset (assign vs l) (negated l)))

  or_other : (k : ℤ) → k ≢ negated l → is_unset (assign vs l) k ≡ unset_or k
  or_other k n = sym (rw (eqz_other k (negated l) n) (or-false (is_unset (assign vs l) k)))

  or_literal : unset_or l ≡ false
  or_literal =
      rw (is_unset_of_is_true (assign vs l) l (is_true-assign vs l u), eqz_other l (negated l) (λ e. true_byte-negated l h (ap true_byte (sym e))))

  or_before : (k : ℤ) → 1 ≤ var_of k → k ≢ l → unset_or k ≡ is_unset vs k
  or_before k g a = go (eqz k (negated l)) refl
    where
      go : (b : Bool) → eqz k (negated l) ≡ b → (is_unset (assign vs l) k || b) ≡ is_unset vs k
      go true e =
          or-true (is_unset (assign vs l) k) ∙
          sym (eq-eqb (value_at vs (index_of k)) 0 (ap (value_at vs) (ap index_of (eqz_sound k (negated l) e) ∙ index_negated) ∙ zero_there))
      go false e =
          or-false (is_unset (assign vs l) k) ∙ ap (λ (x : ℕ). eqb x 0) (kept_else k g a (λ t. never (eqz_complete k (negated l) t) e))

  -- who holds l or its negation has an unset literal less for each
  pub unset_count_assign : (cl : Clause) → ((k : ℤ) → In k cl → 1 ≤ var_of k)
      → unset_count vs cl ≡ count_if (holds l cl) (count_if (holds (negated l) cl) (unset_count (assign vs l) cl))
  unfolding unset_count
  unset_count_assign cl some =
      count_more unset_or (is_unset vs) l or_literal u cl (λ k i a. or_before k (some k i) a) ∙
      ap (count_if (holds l cl)) (count_more (is_unset (assign vs l)) unset_or (negated l) set-negated or_negated cl (λ k i a. or_other k a))

-- ---- no count is over that of the distinct literals

pub true_count_le : (vs : Values) (cl : Clause) → true_count vs cl ≤ length (distinct cl)
unfolding true_count
true_count_le vs cl = count_le (is_true vs) (distinct cl)

pub unset_count_le : (vs : Values) (cl : Clause) → unset_count vs cl ≤ length (distinct cl)
unfolding unset_count
unset_count_le vs cl = count_le (is_unset vs) (distinct cl)
