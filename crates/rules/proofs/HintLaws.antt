-- The laws of specs/Hints: how many there are, how large they may be, and the flip test as a test.
--
--   can_flip-may_flip           a flip leaves all clauses true exactly if the flip test says that it may
--   length-hints_of            a hint for each variable
--   hint_at_le, hints_of_le     no hint is above the number of clauses
--
-- Assumes nothing.
use mathlib.Core.Path.{◌≡◌, refl}
use mathlib.Core.Bool.{Bool, true, false, not, ◌&&◌}
use mathlib.Core.List.{List, [], ◌∷◌}
use Prim.Native.Nat.{ℕ, zero, suc, ◌+◌, ◌≤◌}
use native.Mathlib.Omega.{arith}
use lib.ListN.{length, get_or, replicate, length-replicate}
use Rattle.rules.specs.Lists.{or_next, tabled}
use Rattle.rules.specs.Meaning.{Clause, Values, has_true, satisfies, first_false_from}
use Rattle.rules.specs.Search.{Call, model, no_model, stopped}
use Rattle.rules.specs.Run.{Task, flipped, can_flip, first_call}
use Rattle.rules.specs.Hints.{flip_by, flip_test, may_flip, hint_number, hint_at, hints_in, hints_of}
use Rattle.rules.proofs.ListLaws.{length-tabled}

-- ---- the flip test

first_none : (n : ℕ) (vs : Values) (F : List Clause) → may_flip (flip_by (first_false_from n vs F)) ≡ satisfies vs F
first_none n vs [] = refl
first_none n vs (cl ∷ F) = go (has_true vs cl) (first_none (suc n) vs F)
  where
    go : (b : Bool) → may_flip (flip_by (first_false_from (suc n) vs F)) ≡ satisfies vs F
        → may_flip (flip_by (or_next (not b) n (first_false_from (suc n) vs F))) ≡ (b && satisfies vs F)
    go true ih = ih
    go false ih = refl

pub can_flip-may_flip : (F : List Clause) (m : Values) (i : ℕ) → may_flip (flip_test F m i) ≡ can_flip F m i
can_flip-may_flip F m i = first_none _ (flipped m i) F

-- ---- a hint for each variable

pub length-hints_of : (k : Task) → length (hints_of k) ≡ k.vars
unfolding hints_of
length-hints_of k = go (first_call k)
  where
    go : (c : Call) → length (hints_in c k) ≡ k.vars
    go (model m t) = length-tabled (hint_at k.formula m) 0 k.vars
    go (no_model t) = length-replicate {A = ℕ} k.vars 0
    go (stopped t) = length-replicate {A = ℕ} k.vars 0

-- ---- a bound

first_le : (n : ℕ) (vs : Values) (F : List Clause) → hint_number (flip_by (first_false_from (suc n) vs F)) ≤ n + length F
first_le n vs [] = omega arith
first_le n vs (cl ∷ F) = go (has_true vs cl) (first_le (suc n) vs F)
  where
    go : (b : Bool) → hint_number (flip_by (first_false_from (suc (suc n)) vs F)) ≤ suc n + length F
        → hint_number (flip_by (or_next (not b) (suc n) (first_false_from (suc (suc n)) vs F))) ≤ n + suc (length F)
    go true ih = omega arith
    go false ih = omega arith

pub hint_at_le : (F : List Clause) (m : Values) (i : ℕ) → hint_at F m i ≤ length F
hint_at_le F m i = omega (arith, first_le 0 (flipped m i) F)

hints_le : (F : List Clause) (m : Values) (i n j : ℕ) → get_or (tabled (hint_at F m) i n) j 0 ≤ length F
hints_le F m i zero j = omega arith
hints_le F m i (suc n) zero = hint_at_le F m i
hints_le F m i (suc n) (suc j) = hints_le F m (suc i) n j

zeros_le : (n j : ℕ) → get_or (replicate n 0) j 0 ≤ 0
zeros_le zero j = omega arith
zeros_le (suc n) zero = omega arith
zeros_le (suc n) (suc j) = zeros_le n j

pub hints_of_le : (k : Task) (i : ℕ) → get_or (hints_of k) i 0 ≤ length k.formula
unfolding hints_of
hints_of_le k i = go (first_call k)
  where
    go : (c : Call) → get_or (hints_in c k) i 0 ≤ length k.formula
    go (model m t) = hints_le k.formula m 0 k.vars i
    go (no_model t) = omega (arith, zeros_le k.vars i)
    go (stopped t) = omega (arith, zeros_le k.vars i)
