-- How many literals of a clause there are by number: of the first N numbers, those that the clause holds.
--
--   ones                          how many of the numbers are one literal's
--   helds, helds_nil, helds_le, helds_most     how many a clause holds: at most as many as it has places, and as there are numbers
--   key_of_le                      a key is never large
--   helds_all                     of the numbers of all variables, as many as it has distinct literals
--
-- Assumes nothing.
use mathlib.Core.Path.{◌≡◌, refl, sym, ◌∙◌, ap}
use mathlib.Core.Bool.{Bool, true, false, not, ◌||◌}
use mathlib.Core.List.Memᴰ
use mathlib.Core.List.{[], ◌∷◌}
use Prim.Native.Nat.{ℕ, zero, suc, ◌+◌, ◌*◌, ◌≤◌, ◌<◌}
use native.Mathlib.Omega.{arith}
use lib.Dec.{eqb}
use lib.IntN.{ℤ}
use lib.ListN.{length}
use borrow.Author.Tests.{eqb-true, eqb-false}
use Rattle.rules.specs.Lists.{count_if, keep_if, eqz}
use Rattle.rules.specs.Numbers.{max_vars}
use Rattle.rules.specs.Meaning.{Clause, Values, LitUpTo, var_of}
use Rattle.rules.proofs.ListLaws.{eqz_sound, eqz_refl, eqz_other}
use Rattle.formula.specs.Clauses.{ClauseUpTo}
use Rattle.board.specs.Keys.{holds, distinct, key_of}
use Rattle.board.specs.Holders.{code_of, lit_of}
use Rattle.board.proofs.CodeLaws.{code_of_lt, code_of-lit_of, lit_of-code_of}
use Rattle.board.proofs.KeyLaws.{true_count_le, unset_count_le}

-- of the first N numbers, how many are z's, and how many a clause holds
unfoldable pub ones : ℤ → ℕ → ℕ
ones z zero = 0
ones z (suc k) = ones z k + count_if (eqz (lit_of k) z) 0

unfoldable pub helds : Clause → ℕ → ℕ
helds cl zero = 0
helds cl (suc k) = helds cl k + count_if (holds (lit_of k) cl) 0

ones_le : (z : ℤ) (N : ℕ) → (ones z N ≤ 1) × (N ≤ code_of z → ones z N ≡ 0)
unfolding ones
ones_le z zero = (omega arith, λ h. refl)
ones_le z (suc k) = go (eqz (lit_of k) z) refl (ones_le z k)
  where
    go : (b : Bool) → eqz (lit_of k) z ≡ b → (ones z k ≤ 1) × (k ≤ code_of z → ones z k ≡ 0)
        → (ones z k + count_if b 0 ≤ 1) × (suc k ≤ code_of z → ones z k + count_if b 0 ≡ 0)
    go true e ih =
        let t : code_of z ≡ k = ap code_of (sym (eqz_sound (lit_of k) z e)) ∙ code_of-lit_of k in
        (omega (arith, ih.1 (omega arith)), λ h. absurd (omega arith))
    go false e ih = (omega (arith, ih.0), λ h. omega (arith, ih.1 (omega arith)))

pub helds_nil : (N : ℕ) → helds [] N ≡ 0
unfolding helds
helds_nil zero = refl
helds_nil (suc k) = omega (arith, helds_nil k)

-- a literal that the clause holds already, and one that it does not
helds_again : (z : ℤ) (cl : Clause) → holds z cl ≡ true → (N : ℕ) → helds (z ∷ cl) N ≡ helds cl N
unfolding helds
helds_again z cl t zero = refl
helds_again z cl t (suc k) = go (eqz (lit_of k) z) refl (helds_again z cl t k)
  where
    go : (b : Bool) → eqz (lit_of k) z ≡ b → helds (z ∷ cl) k ≡ helds cl k
        → helds (z ∷ cl) k + count_if (b || holds (lit_of k) cl) 0 ≡ helds cl k + count_if (holds (lit_of k) cl) 0
    go true e ih = let h : holds (lit_of k) cl ≡ true = rw (eqz_sound (lit_of k) z e) t in rw (h, ih)
    go false e ih = rw ih

helds_new : (z : ℤ) (cl : Clause) → holds z cl ≡ false → (N : ℕ) → helds (z ∷ cl) N ≡ ones z N + helds cl N
unfolding helds ones
helds_new z cl t zero = refl
helds_new z cl t (suc k) = go (eqz (lit_of k) z) refl (helds_new z cl t k)
  where
    go : (b : Bool) → eqz (lit_of k) z ≡ b → helds (z ∷ cl) k ≡ ones z k + helds cl k
        → helds (z ∷ cl) k + count_if (b || holds (lit_of k) cl) 0 ≡ ones z k + count_if b 0 + (helds cl k + count_if (holds (lit_of k) cl) 0)
    go true e ih = let h : holds (lit_of k) cl ≡ false = rw (eqz_sound (lit_of k) z e) t in rw h (omega (arith, ih))
    go false e ih = omega (arith, ih)

pub helds_le : (cl : Clause) (N : ℕ) → helds cl N ≤ length cl
helds_le [] N = omega (arith, helds_nil N)
helds_le (z ∷ cl) N = go (holds z cl) refl (helds_le cl N)
  where
    go : (b : Bool) → holds z cl ≡ b → helds cl N ≤ length cl → helds (z ∷ cl) N ≤ suc (length cl)
    go true e ih = omega (arith, helds_again z cl e N)
    go false e ih = omega (arith, helds_new z cl e N, (ones_le z N).0)

pub helds_most : (cl : Clause) (N : ℕ) → helds cl N ≤ N
unfolding helds
helds_most cl zero = omega arith
helds_most cl (suc k) = go (holds (lit_of k) cl) (helds_most cl k)
  where
    go : (b : Bool) → helds cl k ≤ k → helds cl k + count_if b 0 ≤ suc k
    go true h = omega arith
    go false h = omega arith

-- ---- the numbers of all variables

ones_one : (z : ℤ) → 1 ≤ var_of z → (N : ℕ) → code_of z < N → ones z N ≡ 1
unfolding ones
ones_one z h zero g = absurd (omega arith)
ones_one z h (suc k) g = go (eqb (code_of z) k) refl (ones_one z h k)
  where
    go : (b : Bool) → eqb (code_of z) k ≡ b → (code_of z < k → ones z k ≡ 1) → ones z k + count_if (eqz (lit_of k) z) 0 ≡ 1
    go true e ih =
        let c : code_of z ≡ k = eqb-true (code_of z) k e in
        let t : lit_of k ≡ z = ap lit_of (sym c) ∙ lit_of-code_of z h in
        rw (t, eqz_refl z) (omega (arith, (ones_le z k).1 (omega arith)))
    go false e ih =
        let f : eqz (lit_of k) z ≡ false = eqz_other (lit_of k) z (λ t. eqb-false (code_of z) k e (ap code_of (sym t) ∙ code_of-lit_of k)) in
        rw f (omega (arith, ih (omega (arith, eqb-false (code_of z) k e))))

pub helds_all : (n : ℕ) (cl : Clause) → ClauseUpTo n cl → helds cl (2 * n) ≡ length (distinct cl)
helds_all n [] u = helds_nil (2 * n)
helds_all n (z ∷ cl) u = go (holds z cl) refl (helds_all n cl (record { each = λ l i. u.each l (Memᴰ.tail i) }))
  where
    up : LitUpTo n z
    up = u.each z (Memᴰ.head refl)

    go : (b : Bool) → holds z cl ≡ b → helds cl (2 * n) ≡ length (distinct cl) → helds (z ∷ cl) (2 * n) ≡ length (keep_if (not b) z (distinct cl))
    go true e ih = helds_again z cl e (2 * n) ∙ ih
    go false e ih = omega (arith, ih, helds_new z cl e (2 * n), ones_one z up.some (2 * n) (code_of_lt z up))

-- so that a key is never large
pub key_of_le : (n : ℕ) (cl : Clause) (vs : Values) → ClauseUpTo n cl → n ≤ max_vars → key_of vs cl ≤ 65537 * 512
unfolding key_of
key_of_le n cl vs u h =
    omega (arith, true_count_le vs cl, unset_count_le vs cl, helds_all n cl u, helds_most cl (2 * n))
