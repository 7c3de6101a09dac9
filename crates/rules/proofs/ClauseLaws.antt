-- The laws of an entry list read as clauses (specs/Meaning): how many there are, and what stands in them.
--
--   length-leading    a literal in front changes no number of clauses
--   length-clauses    as many clauses as zeros
--   clauses_le        no more clauses than entries
--   Entries, clauses_entries     a clause's literals are entries, and none is 0
--
-- Assumes nothing.
use mathlib.Core.Path.{◌≡◌, refl, sym, ◌∙◌, ap}
use mathlib.Core.Bool.{Bool}
use mathlib.Core.List.Memᴰ
use mathlib.Core.List.{List, [], ◌∷◌}
use Prim.Native.Nat.{zero, suc, ◌≤◌}
use native.Mathlib.Omega.{arith}
use lib.IntN.{ℤ, pos, negsuc, nat_abs}
use lib.ListN.{length}
use Rattle.rules.specs.Lists.{In, count, count_if, is_zero}
use Rattle.rules.specs.Meaning.{Clause, var_of, leading, clauses}
use Rattle.rules.proofs.ListLaws.{eqz_other}

-- ---- how many

pub length-leading : (l : ℤ) (cls : List Clause) → length (leading l cls) ≡ length cls
length-leading l [] = refl
length-leading l (cl ∷ cls) = refl

pub length-clauses : (es : List ℤ) → length (clauses es) ≡ count is_zero es
length-clauses [] = refl
length-clauses (pos zero ∷ es) = ap suc (length-clauses es)
length-clauses (pos (suc n) ∷ es) =
    length-leading (pos (suc n)) (clauses es) ∙ length-clauses es
    ∙ sym (ap (λ (b : Bool). count_if b (count is_zero es)) (eqz_other (pos (suc n)) (pos 0) (λ e. absurd (let y : suc n ≡ 0 = ap nat_abs e in omega arith))))
length-clauses (negsuc n ∷ es) = length-leading (negsuc n) (clauses es) ∙ length-clauses es

pub clauses_le : (es : List ℤ) → length (clauses es) ≤ length es
clauses_le [] = omega arith
clauses_le (pos zero ∷ es) = omega (arith, clauses_le es)
clauses_le (pos (suc n) ∷ es) = omega (arith, clauses_le es, length-leading (pos (suc n)) (clauses es))
clauses_le (negsuc n ∷ es) = omega (arith, clauses_le es, length-leading (negsuc n) (clauses es))

-- ---- what stands in them

-- a clause of the entry list has entries for its literals, and no zero
pub record Entries (es : List ℤ) (cl : Clause) : Type 0 where
  pub each : (l : ℤ) → In l cl → In l es × (1 ≤ var_of l)

entries_behind : {es : List ℤ} {cl : Clause} (k : ℤ) → Entries es cl → Entries (k ∷ es) cl
entries_behind k e = record { each = λ l i. (Memᴰ.tail (e.each l i).0, (e.each l i).1) }

entries_leading : (k : ℤ) → 1 ≤ var_of k → (es : List ℤ) (cls : List Clause) → ((cl : Clause) → In cl cls → Entries es cl)
    → (cl : Clause) → In cl (leading k cls) → Entries (k ∷ es) cl
entries_leading k h es [] f cl i = absurd (Memᴰ.not-nil i)
entries_leading k h es (d ∷ cls) f cl (Memᴰ.tail i) = entries_behind k (f cl (Memᴰ.tail i))
entries_leading k h es (d ∷ cls) f cl (Memᴰ.head e) = rw e (record { each = own })
  where
    own : (l : ℤ) → In l (k ∷ d) → In l (k ∷ es) × (1 ≤ var_of l)
    own l (Memᴰ.head q) = (Memᴰ.head q, rw q h)
    own l (Memᴰ.tail j) = (entries_behind k (f d (Memᴰ.head refl))).each l j

pub clauses_entries : (es : List ℤ) (cl : Clause) → In cl (clauses es) → Entries es cl
clauses_entries [] cl i = absurd (Memᴰ.not-nil i)
clauses_entries (pos zero ∷ es) cl (Memᴰ.head e) = record { each = λ l i. absurd (Memᴰ.not-nil (rw e at i)) }
clauses_entries (pos zero ∷ es) cl (Memᴰ.tail i) = entries_behind (pos zero) (clauses_entries es cl i)
clauses_entries (pos (suc n) ∷ es) cl i = entries_leading (pos (suc n)) (omega arith) es (clauses es) (clauses_entries es) cl i
clauses_entries (negsuc n ∷ es) cl i = entries_leading (negsuc n) (omega arith) es (clauses es) (clauses_entries es) cl i
