-- How many clauses and entries groups have (src/count.rt).
--
--   pair_count_le, pair_count-next  the pairs of n values
--   length-pairs_from, length_groups     as many clauses
--   Counting, counting_start, counting_step, counting_done     the loop over the sizes
--   clauses_le        at most 257 a group
--   entries_are       entries and two a group are three a clause and one a value
--
-- Assumes nothing.
use mathlib.Core.Path.{◌≡◌, refl, ◌∙◌, ap}
use mathlib.Core.List.Memᴰ
use mathlib.Core.List.{List, [], ◌∷◌, ◌++◌}
use Prim.Native.Nat.{ℕ, zero, suc, ◌+◌, ◌-◌, ◌*◌, ◌≤◌, ◌<◌}
use native.Mathlib.Omega.{arith}
use native.Mathlib.Numerals.{add-one}
use lib.IntN.{pos}
use lib.ListN.{length, get_or, drop, length-append, drop_of_length-le}
use lib.Seq.{drop-cons}
use Rattle.rules.specs.Lists.{In, sum_of}
use Rattle.rules.specs.Meaning.{Clause}
use Rattle.texts.specs.Plain.{entries_of}
use Rattle.texts.specs.Groups.{max_size, vars_in, values_from, pairs_with, pairs_from, group_clauses, groups_from}
use Rattle.groups.specs.Counts.{pair_count, SizesSmall}
use Rattle.groups.proofs.ExpandLaws.{entries_of-append}

-- ---- pairs

pub pair_count-next : (n : ℕ) → 0 < n → pair_count n ≡ (n - 1) + pair_count (n - 1)
pair_count-next zero h = absurd (omega arith)
pair_count-next (suc n) h = let e : n ≡ suc n - 1 = omega arith in ap (λ (k : ℕ). k + pair_count k) e

pub pair_count_le : (n : ℕ) → n ≤ max_size → pair_count n ≤ 16 * n
pair_count_le zero h = omega arith
pair_count_le (suc n) h = omega (arith, pair_count_le n (omega arith))

length-pairs_with : (i j n : ℕ) → length (pairs_with i j n) ≡ n
length-pairs_with i j zero = refl
length-pairs_with i j (suc n) = ap suc (length-pairs_with i (suc j) n)

pub length-pairs_from : (i n : ℕ) → length (pairs_from i n) ≡ pair_count n
length-pairs_from i zero = refl
length-pairs_from i (suc n) =
    omega (arith, length-append (pairs_with i (suc i) n) (pairs_from (suc i) n), length-pairs_with i (suc i) n, length-pairs_from (suc i) n)

-- ---- clauses of groups

abbrev pub clause_count : ℕ → ℕ
clause_count n = suc (pair_count n)

pub length_groups : (i : ℕ) (ns : List ℕ) → length (groups_from i ns) ≡ sum_of clause_count ns
length_groups i [] = refl
length_groups i (n ∷ ns) =
    omega (arith, length-append (group_clauses i n) (groups_from (i + n) ns), length-pairs_from i n, length_groups (i + n) ns)

-- so many are counted, and with those that are left they are all
pub record Counting (ss : List ℕ) (i clauses : ℕ) : Type 0 where
  pub whole : clauses + sum_of clause_count (drop i ss) ≡ sum_of clause_count ss
  pub most : clauses ≤ 257 * i

pub counting_start : (ss : List ℕ) → Counting ss 0 0
counting_start ss = record { whole = omega arith; most = omega arith }

in_at : (ss : List ℕ) (i : ℕ) → i < length ss → In (get_or ss i 0) ss
in_at [] i h = absurd (omega arith)
in_at (s ∷ ss) zero h = Memᴰ.head refl
in_at (s ∷ ss) (suc i) h = Memᴰ.tail (in_at ss i (omega arith))

pub size_small : {ss : List ℕ} → SizesSmall ss → (i : ℕ) → i < length ss → get_or ss i 0 ≤ max_size
size_small {ss} z i h = z.small (get_or ss i 0) (in_at ss i h)

pub counting_step : {ss : List ℕ} {i clauses : ℕ} → SizesSmall ss → Counting ss i clauses → i < length ss
    → Counting ss (i + 1) (clauses + (1 + pair_count (get_or ss i 0)))
counting_step {ss} {i} {clauses} z w h =
    record {
      whole = rw (add-one i) (omega (arith, w.whole, ap (sum_of clause_count) (drop-cons ss i 0 h)));
      most = omega (arith, w.most, pair_count_le (get_or ss i 0) (size_small z i h), size_small z i h);
    }

pub counting_done : {ss : List ℕ} {i clauses : ℕ} → Counting ss i clauses → length ss ≤ i → clauses ≡ length (groups_from 0 ss)
counting_done {ss} {i} {clauses} w h =
    omega (arith, w.whole, ap (sum_of clause_count) (drop_of_length-le ss {i = i} h), length_groups 0 ss)

pub clauses_le : {ss : List ℕ} → SizesSmall ss → length (groups_from 0 ss) ≤ 257 * length ss
clauses_le {ss} z = rw (length_groups 0 ss) (go ss z.small)
  where
    go : (ns : List ℕ) → ((n : ℕ) → In n ns → n ≤ max_size) → sum_of clause_count ns ≤ 257 * length ns
    go [] f = omega arith
    go (n ∷ ns) f =
        omega (arith, f n (Memᴰ.head refl), pair_count_le n (f n (Memᴰ.head refl)), go ns (λ k i. f k (Memᴰ.tail i)))

-- ---- entries of groups

length-values_from : (i n : ℕ) → length (values_from i n) ≡ n
length-values_from i zero = refl
length-values_from i (suc n) = ap suc (length-values_from (suc i) n)

-- a clause and what follows it
length_clause : (cl : Clause) (F : List Clause) → length (entries_of (cl ∷ F)) ≡ length cl + suc (length (entries_of F))
length_clause cl F = length-append cl (pos 0 ∷ entries_of F)

length_both : (F G : List Clause) → length (entries_of (F ++ G)) ≡ length (entries_of F) + length (entries_of G)
length_both F G = ap length (entries_of-append F G) ∙ length-append (entries_of F) (entries_of G)

length_entries_with : (i j n : ℕ) → length (entries_of (pairs_with i j n)) ≡ 3 * n
length_entries_with i j zero = refl
length_entries_with i j (suc n) = omega (arith, length_entries_with i (suc j) n)

length_entries_pairs : (i n : ℕ) → length (entries_of (pairs_from i n)) ≡ 3 * pair_count n
length_entries_pairs i zero = refl
length_entries_pairs i (suc n) =
    omega (arith, length_both (pairs_with i (suc i) n) (pairs_from (suc i) n), length_entries_with i (suc i) n, length_entries_pairs (suc i) n)

length_entries_group : (i n : ℕ) → length (entries_of (group_clauses i n)) ≡ n + suc (3 * pair_count n)
length_entries_group i n = length_clause (values_from i n) (pairs_from i n) ∙ rw (length-values_from i n, length_entries_pairs i n)

pub entries_are : (i : ℕ) (ns : List ℕ) → length (entries_of (groups_from i ns)) + 2 * length ns ≡ 3 * length (groups_from i ns) + vars_in ns
entries_are i [] = refl
entries_are i (n ∷ ns) =
    omega (
      arith,
      length_both (group_clauses i n) (groups_from (i + n) ns),
      length_entries_group i n,
      length-append (group_clauses i n) (groups_from (i + n) ns),
      length-pairs_from i n,
      entries_are (i + n) ns,
    )
