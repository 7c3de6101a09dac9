-- The laws of the number of a literal.
--
--   code_positive, code_negative     by its index and its sign
--   code_of_same, code_of_lt        literals with the same number are the same; it is below twice the variables
--   code_of-lit_of, lit_of_up_to, lit_of-code_of, index_of-lit_of     the literal of a number
--   other_code-code_of              the number of the negation
--   literal_true, literal_false   the literal of a variable that a value makes true
--
-- Assumes nothing.
use mathlib.Core.Path.{◌≡◌, refl, ap}
use mathlib.Core.Bool.{Bool, true, false}
use Prim.Native.Nat.{ℕ, zero, suc, pred, ◌+◌, ◌*◌, ◌/◌, ◌%◌, ◌≤◌, ◌<◌}
use native.Mathlib.Omega.{arith}
use lib.Dec.{eqb}
use lib.IntN.{ℤ, pos, negsuc}
use borrow.Author.Tests.{eqb-true, eqb-false, eq-eqb, ne_eqb}
use Rattle.rules.specs.Meaning.{LitUpTo, var_of, negated, index_of}
use Rattle.rules.proofs.ListLaws.{never}
use Rattle.rules.specs.Run.{literal_at}
use Rattle.formula.specs.Literals.{is_positive, byte_of}
use Rattle.board.specs.Holders.{code_of, lit_by, lit_of, other_code}

pub code_positive : (l : ℤ) (i : ℕ) → is_positive l ≡ true → i + 1 ≡ var_of l → 2 * i ≡ code_of l
code_positive (pos zero) i s e = absurd (omega arith)
code_positive (pos (suc n)) i s e = omega arith
code_positive (negsuc n) i s e = absurd (never s refl)

pub code_negative : (l : ℤ) (i : ℕ) → is_positive l ≡ false → i + 1 ≡ var_of l → 2 * i + 1 ≡ code_of l
code_negative (pos n) i s e = absurd (never refl s)
code_negative (negsuc n) i s e = omega arith

pub code_of_same : (k l : ℤ) → 1 ≤ var_of k → 1 ≤ var_of l → code_of k ≡ code_of l → k ≡ l
code_of_same (pos zero) l h g e = absurd (omega arith)
code_of_same (pos (suc m)) (pos zero) h g e = absurd (omega arith)
code_of_same (pos (suc m)) (pos (suc n)) h g e = ap (λ (i : ℕ). pos (suc i)) (omega arith)
code_of_same (pos (suc m)) (negsuc n) h g e = absurd (omega arith)
code_of_same (negsuc m) (pos zero) h g e = absurd (omega arith)
code_of_same (negsuc m) (pos (suc n)) h g e = absurd (omega arith)
code_of_same (negsuc m) (negsuc n) h g e = ap negsuc (omega arith)

pub code_of_lt : {n : ℕ} (l : ℤ) → LitUpTo n l → code_of l < 2 * n
code_of_lt (pos zero) h = absurd (omega (arith, h.some))
code_of_lt (pos (suc m)) h = omega (arith, h.most)
code_of_lt (negsuc m) h = omega (arith, h.most)

-- ---- the literal of a number

pub code_of-lit_of : (k : ℕ) → code_of (lit_of k) ≡ k
code_of-lit_of k = go (eqb (k % 2) 0) refl
  where
    go : (b : Bool) → eqb (k % 2) 0 ≡ b → code_of (lit_by b (k / 2)) ≡ k
    go true e = omega (arith, eqb-true (k % 2) 0 e)
    go false e = omega (arith, eqb-false (k % 2) 0 e)

var_of-lit_of : (k : ℕ) → var_of (lit_of k) ≡ suc (k / 2)
var_of-lit_of k = go (eqb (k % 2) 0)
  where
    go : (b : Bool) → var_of (lit_by b (k / 2)) ≡ suc (k / 2)
    go true = refl
    go false = refl

pub lit_of_up_to : (n k : ℕ) → k < 2 * n → LitUpTo n (lit_of k)
lit_of_up_to n k h = record { some = omega (arith, var_of-lit_of k); most = omega (arith, var_of-lit_of k) }

pub lit_of-code_of : (l : ℤ) → 1 ≤ var_of l → lit_of (code_of l) ≡ l
lit_of-code_of l h = code_of_same (lit_of (code_of l)) l (omega (arith, var_of-lit_of (code_of l))) h (code_of-lit_of (code_of l))

pub index_of-lit_of : (k : ℕ) → index_of (lit_of k) ≡ k / 2
index_of-lit_of k = go (eqb (k % 2) 0)
  where
    go : (b : Bool) → index_of (lit_by b (k / 2)) ≡ k / 2
    go true = refl
    go false = refl

-- ---- the number of the negation

pub other_code-code_of : (l : ℤ) → 1 ≤ var_of l → other_code (code_of l) ≡ code_of (negated l)
other_code-code_of (pos zero) h = absurd (omega arith)
other_code-code_of (pos (suc n)) h = let e : (2 * n) % 2 ≡ 0 = omega arith in rw (eq-eqb ((2 * n) % 2) 0 e)
other_code-code_of (negsuc n) h =
    let e : (2 * n + 1) % 2 ≡ 1 = omega arith in rw (ne_eqb ((2 * n + 1) % 2) 0 (λ t. absurd (omega arith))) (omega arith)

-- ---- the literal of a variable that a value makes true

pub literal_true : (v : ℕ) (x : Bool) → 1 ≤ v → x ≡ true → pos v ≡ literal_at (pred v) (byte_of x)
literal_true zero x h e = absurd (omega arith)
literal_true (suc v) true h e = refl
literal_true (suc v) false h e = absurd (never e refl)

pub literal_false : (v : ℕ) (x : Bool) → 1 ≤ v → x ≡ false → negated (pos v) ≡ literal_at (pred v) (byte_of x)
literal_false zero x h e = absurd (omega arith)
literal_false (suc v) true h e = absurd (never refl e)
literal_false (suc v) false h e = refl
