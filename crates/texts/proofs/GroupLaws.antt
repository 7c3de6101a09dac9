-- Groups as clauses, and setups as values of the variables: the laws of specs/Groups.
--
--   groups_literals               the variables of the groups' clauses
--   OneOf, group_sound, group_complete     a group's clauses hold exactly if one of its values alone is true
--   Agrees, groups_sound, groups_complete     those of all groups exactly if the values are those of a setup
--   value_at-bytes_of, length-bytes_of, total-bytes_of     the bytes of a setup
--   keeps_bytes_of                 they make clauses true exactly if the setup keeps them
--   setup_in-bytes_of               and the setup is found in them again
--   uses-value_of, index_in_lt      value k of group g by its variable
--
-- Assumes nothing.
use mathlib.Core.Path.{◌≡◌, refl, sym, ◌∙◌, ap}
use mathlib.Core.Logic.{◌⊎◌, inl, inr, ⊎_elim}
use mathlib.Core.Bool.{Bool, true, false, not, ◌||◌}
use mathlib.Core.List.Memᴰ
use mathlib.Core.List.{List, [], ◌∷◌, ◌++◌}
use Prim.Native.Nat.{ℕ, zero, suc, pred, ◌+◌, ◌-◌, ◌≤◌, ◌<◌}
use native.Mathlib.Omega.{arith}
use lib.Dec.{eqb}
use lib.IntN.{ℤ, pos, negsuc}
use lib.ListN.{length, get_or, take, length-append, get_or-append}
use lib.Seq.{get_or-append-add, take_at, drop_at}
use borrow.Author.Tests.{eqb-true, eqb-false, eq-eqb, ne_eqb, lt-ltb, le-ltb}
use Rattle.rules.specs.Lists.{In, any, nth_index, tabled}
use Rattle.rules.specs.Meaning.{Clause, Values, value_at, is_true, has_true, satisfies, LitUpTo, Total}
use Rattle.texts.specs.Groups.{vars_in, values_from, pairs_with, pairs_from, group_clauses, groups_from, SetupOf, no_group, value, uses, holds, keeps_all}
use Rattle.texts.specs.Groups.{ValueOf, index_in, value_in, byte_if, chosen, bytes_of, is_true_byte, setup_in}
use Rattle.rules.proofs.ListLaws.{le_or_lt, both, never, and_left, and_right, or_cases, any_sound, any_complete, all_sound, all_complete}
use Rattle.rules.proofs.ListLaws.{any_cong, all_cong, get_d_default, length-tabled, get_d_tabled}
use Rattle.rules.proofs.MeaningLaws.{satisfies-left, satisfies_right, satisfies-append}

-- ---- the clauses of a group

values_in : (i n : ℕ) (l : ℤ) → In l (values_from i n) → (j : ℕ) × (i ≤ j) × (j < i + n) × (l ≡ pos (suc j))
values_in i zero l h = absurd (Memᴰ.not-nil h)
values_in i (suc n) l (Memᴰ.head e) = (i, omega arith, omega arith, e)
values_in i (suc n) l (Memᴰ.tail h) = let (j, a, b, e) = values_in (suc i) n l h in (j, omega arith, omega arith, e)

in_values : (i n j : ℕ) → i ≤ j → j < i + n → In (pos (suc j)) (values_from i n)
in_values i zero j a b = absurd (omega arith)
in_values i (suc n) j a b = go (le_or_lt j i) (in_values (suc i) n j)
  where
    go : (j ≤ i) ⊎ (i < j) → (suc i ≤ j → j < suc i + n → In (pos (suc j)) (values_from (suc i) n)) → In (pos (suc j)) (values_from i (suc n))
    go (inl h) ih = let same : j ≡ i = omega arith in Memᴰ.head (ap (λ (x : ℕ). pos (suc x)) same)
    go (inr h) ih = Memᴰ.tail (ih (omega arith) (omega arith))

with_in : (i j n : ℕ) (cl : Clause) → In cl (pairs_with i j n) → (h : ℕ) × (j ≤ h) × (h < j + n) × (cl ≡ negsuc i ∷ negsuc h ∷ [])
with_in i j zero cl x = absurd (Memᴰ.not-nil x)
with_in i j (suc n) cl (Memᴰ.head e) = (j, omega arith, omega arith, e)
with_in i j (suc n) cl (Memᴰ.tail x) = let (h, a, b, e) = with_in i (suc j) n cl x in (h, omega arith, omega arith, e)

in_with : (i j n h : ℕ) → j ≤ h → h < j + n → In (negsuc i ∷ negsuc h ∷ []) (pairs_with i j n)
in_with i j zero h a b = absurd (omega arith)
in_with i j (suc n) h a b = go (le_or_lt h j) (in_with i (suc j) n h)
  where
    go : (h ≤ j) ⊎ (j < h) → (suc j ≤ h → h < suc j + n → In (negsuc i ∷ negsuc h ∷ []) (pairs_with i (suc j) n))
        → In (negsuc i ∷ negsuc h ∷ []) (pairs_with i j (suc n))
    go (inl q) ih = let same : h ≡ j = omega arith in Memᴰ.head (ap (λ (x : ℕ). negsuc i ∷ negsuc x ∷ []) same)
    go (inr q) ih = Memᴰ.tail (ih (omega arith) (omega arith))

-- a lower and a higher value, negated
record Pair (i n : ℕ) (cl : Clause) : Type 0 where
  low : ℕ
  high : ℕ
  from : i ≤ low
  below : low < high
  to : high < i + n
  are : cl ≡ negsuc low ∷ negsuc high ∷ []

pairs_in : (i n : ℕ) (cl : Clause) → In cl (pairs_from i n) → Pair i n cl
pairs_in i zero cl x = absurd (Memᴰ.not-nil x)
pairs_in i (suc n) cl x = go (Memᴰ.append_cases (pairs_with i (suc i) n) x) (pairs_in (suc i) n cl)
  where
    go : In cl (pairs_with i (suc i) n) ⊎ In cl (pairs_from (suc i) n) → (In cl (pairs_from (suc i) n) → Pair (suc i) n cl) → Pair i (suc n) cl
    go (inl y) ih =
        let (h, a, b, e) = with_in i (suc i) n cl y in
        record { low = i; high = h; from = omega arith; below = omega arith; to = omega arith; are = e }
    go (inr y) ih =
        let p = ih y in
        record {
          low = p.low;
          high = p.high;
          from = omega (arith, p.from);
          below = p.below;
          to = omega (arith, p.to);
          are = p.are;
        }

in_pairs : (i n a b : ℕ) → i ≤ a → a < b → b < i + n → In (negsuc a ∷ negsuc b ∷ []) (pairs_from i n)
in_pairs i zero a b x y z = absurd (omega arith)
in_pairs i (suc n) a b x y z = go (le_or_lt a i) (in_pairs (suc i) n a b)
  where
    go : (a ≤ i) ⊎ (i < a) → (suc i ≤ a → a < b → b < suc i + n → In (negsuc a ∷ negsuc b ∷ []) (pairs_from (suc i) n))
        → In (negsuc a ∷ negsuc b ∷ []) (pairs_from i (suc n))
    go (inl q) ih =
        let same : a ≡ i = omega arith in
        rw same (Memᴰ.append_left (pairs_from (suc i) n) (in_with i (suc i) n b (omega arith) (omega arith)))
    go (inr q) ih = Memᴰ.append_right (pairs_with i (suc i) n) (ih (omega arith) y (omega arith))

-- the literals of the clauses of all groups
group_literals : (i n : ℕ) (cl : Clause) → In cl (group_clauses i n) → (l : ℤ) → In l cl → LitUpTo (i + n) l
group_literals i n cl (Memᴰ.head e) l x = let (j, a, b, q) = values_in i n l (rw e at x) in rw q (record { some = omega arith; most = omega arith })
group_literals i n cl (Memᴰ.tail y) l x = let p = pairs_in i n cl y in one p (rw p.are at x)
  where
    one : (p : Pair i n cl) → In l (negsuc p.low ∷ negsuc p.high ∷ []) → LitUpTo (i + n) l
    one p (Memᴰ.head q) = rw q (record { some = omega arith; most = omega (arith, p.below, p.to) })
    one p (Memᴰ.tail (Memᴰ.head q)) = rw q (record { some = omega arith; most = omega (arith, p.to) })
    one p (Memᴰ.tail (Memᴰ.tail z)) = absurd (Memᴰ.not-nil z)

pub groups_literals : (i : ℕ) (ns : List ℕ) (cl : Clause) → In cl (groups_from i ns) → (l : ℤ) → In l cl → LitUpTo (i + vars_in ns) l
groups_literals i [] cl x l y = absurd (Memᴰ.not-nil x)
groups_literals i (n ∷ ns) cl x l y = go (Memᴰ.append_cases (group_clauses i n) x) (groups_literals (i + n) ns cl)
  where
    go : In cl (group_clauses i n) ⊎ In cl (groups_from (i + n) ns)
        → (In cl (groups_from (i + n) ns) → (k : ℤ) → In k cl → LitUpTo (i + n + vars_in ns) k) → LitUpTo (i + (n + vars_in ns)) l
    go (inl z) ih = let h = group_literals i n cl z l y in record { some = h.some; most = omega (arith, h.most) }
    go (inr z) ih = let h = ih z l y in record { some = h.some; most = omega (arith, h.most) }

-- ---- one value of a group

-- of n bytes from index i on, the k-th alone is true
pub record OneOf (m : Values) (i n k : ℕ) : Type 0 where
  pub some : 1 ≤ k
  pub most : k ≤ n
  pub bytes : (j : ℕ) → j < n → value_at m (i + j) ≡ byte_if (eqb k (suc j))

byte_at : {m : Values} {i n k : ℕ} → OneOf m i n k → (j : ℕ) → i ≤ j → j < i + n → value_at m j ≡ byte_if (eqb k (suc (j - i)))
byte_at {m} {i} o j a b = ap (value_at m) (omega arith) ∙ o.bytes (j - i) (omega arith)

pair_true : {m : Values} {i n k : ℕ} {cl : Clause} → OneOf m i n k → Pair i n cl → has_true m cl ≡ true
pair_true {m} {i} {n} {k} o p =
    rw (p.are, byte_at o p.low p.from (omega (arith, p.below, p.to)), byte_at o p.high (omega (arith, p.from, p.below)) p.to)
    (go (eqb k (suc (p.low - i))) refl)
  where
    go : (b : Bool) → eqb k (suc (p.low - i)) ≡ b → (eqb (byte_if b) 1 || (eqb (byte_if (eqb k (suc (p.high - i)))) 1 || false)) ≡ true
    go false e = refl
    go true e = rw (ne_eqb k (suc (p.high - i)) (omega (arith, eqb-true k (suc (p.low - i)) e, p.from, p.below)))

pub group_sound : (m : Values) (i n k : ℕ) → OneOf m i n k → satisfies m (group_clauses i n) ≡ true
group_sound m i n zero o = absurd (omega (arith, o.some))
group_sound m i n (suc k) o =
    rw (any_complete (is_true m) (in_values i n (i + k) (omega arith) (omega (arith, o.most)))
    (rw (o.bytes k (omega (arith, o.most)), eq-eqb (suc k) (suc k) refl)))
    (all_complete (has_true m) (pairs_from i n) (λ cl x. pair_true o (pairs_in i n cl x)))

module _ (m : Values) (i n : ℕ) where
  -- a true value makes each other one false
  pair_false : satisfies m (pairs_from i n) ≡ true → (a b : ℕ) → i ≤ a → a < b → b < i + n → (value_at m a ≡ 1) ⊎ (value_at m b ≡ 1)
  pair_false h a b x y z = go (or_cases (is_true m (negsuc a)) (is_true m (negsuc b) || false) (all_sound (has_true m) h (in_pairs i n a b x y z)))
    where
      last : (is_true m (negsuc b) ≡ true) ⊎ (false ≡ true) → (value_at m a ≡ 1) ⊎ (value_at m b ≡ 1)
      last (inl e) = inr (eqb-true (value_at m b) 1 e)
      last (inr e) = absurd (never e refl)

      go : (is_true m (negsuc a) ≡ true) ⊎ ((is_true m (negsuc b) || false) ≡ true) → (value_at m a ≡ 1) ⊎ (value_at m b ≡ 1)
      go (inl e) = inl (eqb-true (value_at m a) 1 e)
      go (inr e) = last (or_cases (is_true m (negsuc b)) false e)

  other_false : satisfies m (pairs_from i n) ≡ true → (j h : ℕ) → i ≤ j → j < i + n → i ≤ h → h < i + n → (h ≡ j → ⊥) → value_at m j ≡ 2 → value_at m h ≡ 1
  other_false p j h a b c d f e = go (le_or_lt h j)
    where
      go : (h ≤ j) ⊎ (j < h) → value_at m h ≡ 1
      go (inl q) = ⊎_elim (λ x. x) (λ x. absurd (omega arith)) (pair_false p h j c (omega arith) b)
      go (inr q) = ⊎_elim (λ x. absurd (omega arith)) (λ x. x) (pair_false p j h a q d)

  pub group_complete : satisfies m (group_clauses i n) ≡ true → (k : ℕ) × OneOf m i n k
  group_complete s =
      let (l, x, t) = any_sound (is_true m) (values_from i n) (and_left (has_true m (values_from i n)) (satisfies m (pairs_from i n)) s) in
      let (j, a, b, e) = values_in i n l x in
      let two : value_at m j ≡ 2 = eqb-true (value_at m j) 2 (rw e at t) in
      (suc (j - i), record { some = omega arith; most = omega arith; bytes = λ h q. byte j a b two h q (both (eqb (suc (j - i)) (suc h))) })
    where
      byte : (j : ℕ) → i ≤ j → j < i + n → value_at m j ≡ 2 → (h : ℕ) → h < n
          → (eqb (suc (j - i)) (suc h) ≡ true) ⊎ (eqb (suc (j - i)) (suc h) ≡ false) → value_at m (i + h) ≡ byte_if (eqb (suc (j - i)) (suc h))
      byte j a b two h q (inl e) =
          let same : i + h ≡ j = omega (arith, eqb-true (suc (j - i)) (suc h) e) in rw (e, same) two
      byte j a b two h q (inr e) =
          rw e (other_false (and_right (has_true m (values_from i n)) (satisfies m (pairs_from i n)) s) j (i + h) a b (omega arith) (omega arith)
          (λ same. omega (arith, eqb-false (suc (j - i)) (suc h) e)) two)

-- ---- all groups

uses_here : (n k : ℕ) (ns ks : List ℕ) (j : ℕ) → j < n → uses (n ∷ ns) (k ∷ ks) j ≡ eqb k (suc j)
uses_here n k ns ks j h = rw (lt-ltb j n h)

uses_later : (n k : ℕ) (ns ks : List ℕ) (j : ℕ) → n ≤ j → uses (n ∷ ns) (k ∷ ks) j ≡ uses ns ks (j - n)
uses_later n k ns ks j h = rw (le-ltb j n h)

-- the values from index i on are those of a setup
pub record Agrees (m : Values) (i : ℕ) (ns ks : List ℕ) : Type 0 where
  pub bytes : (j : ℕ) → j < vars_in ns → value_at m (i + j) ≡ byte_if (uses ns ks j)

pub groups_sound : (m : Values) (i : ℕ) {ns ks : List ℕ} → SetupOf ns ks → Agrees m i ns ks → satisfies m (groups_from i ns) ≡ true
groups_sound m i no_group w = refl
groups_sound m i (value {n} {k} {ns} {ks} a b s) w =
    satisfies-append m (group_clauses i n) (groups_from (i + n) ns)
    (group_sound m i n k (record { some = a; most = b; bytes = λ j h. w.bytes j (omega arith) ∙ ap byte_if (uses_here n k ns ks j h) }))
    (groups_sound m (i + n) s (record {
      bytes =
          λ j h. ap (value_at m) (omega arith) ∙ w.bytes (n + j) (omega arith) ∙
          ap byte_if (uses_later n k ns ks (n + j) (omega arith) ∙ ap (uses ns ks) (omega arith));
    }))

pub groups_complete : (m : Values) → Total m → (i : ℕ) (ns : List ℕ) → satisfies m (groups_from i ns) ≡ true
    → (ks : List ℕ) × SetupOf ns ks × Agrees m i ns ks
groups_complete m w i [] s = ([], no_group, record { bytes = λ j h. absurd (omega arith) })
groups_complete m w i (n ∷ ns) s =
    let (k, o) = group_complete m i n (satisfies-left m (group_clauses i n) (groups_from (i + n) ns) s) in
    let (ks, y, a) = groups_complete m w (i + n) ns (satisfies_right m (group_clauses i n) (groups_from (i + n) ns) s) in
    (k ∷ ks, value o.some o.most y, record { bytes = λ j h. bytes k o ks a j h (le_or_lt n j) })
  where
    bytes : (k : ℕ) → OneOf m i n k → (ks : List ℕ) → Agrees m (i + n) ns ks → (j : ℕ) → j < n + vars_in ns
        → (n ≤ j) ⊎ (j < n) → value_at m (i + j) ≡ byte_if (uses (n ∷ ns) (k ∷ ks) j)
    bytes k o ks a j h (inl q) =
        ap (value_at m) (omega arith) ∙ a.bytes (j - n) (omega arith) ∙ ap byte_if (sym (uses_later n k ns ks j q))
    bytes k o ks a j h (inr q) = o.bytes j q ∙ ap byte_if (sym (uses_here n k ns ks j q))

-- ---- the bytes of a setup

length-chosen : (n k : ℕ) → length (chosen n k) ≡ n
length-chosen n k = length-tabled (λ i. byte_if (eqb k (suc i))) 0 n

pub length-bytes_of : {ns ks : List ℕ} → SetupOf ns ks → length (bytes_of ns ks) ≡ vars_in ns
length-bytes_of no_group = refl
length-bytes_of (value {n} {k} {ns} {ks} a b s) =
    omega (arith, length-append (chosen n k) (bytes_of ns ks), length-chosen n k, length-bytes_of s)

pub value_at-bytes_of : {ns ks : List ℕ} → SetupOf ns ks → (j : ℕ) → value_at (bytes_of ns ks) j ≡ byte_if (uses ns ks j)
value_at-bytes_of no_group j = refl
value_at-bytes_of (value {n} {k} {ns} {ks} a b s) j = go (le_or_lt n j) (value_at-bytes_of s (j - n))
  where
    go : (n ≤ j) ⊎ (j < n) → value_at (bytes_of ns ks) (j - n) ≡ byte_if (uses ns ks (j - n))
        → value_at (chosen n k ++ bytes_of ns ks) j ≡ byte_if (uses (n ∷ ns) (k ∷ ks) j)
    go (inl h) ih =
        ap (value_at (chosen n k ++ bytes_of ns ks)) (omega (arith, length-chosen n k)) ∙
        get_or-append-add (chosen n k) (bytes_of ns ks) (j - n) 1 ∙ ih ∙ ap byte_if (sym (uses_later n k ns ks j h))
    go (inr h) ih =
        let l : j < length (chosen n k) = omega (arith, length-chosen n k) in
        get_or-append (chosen n k) (bytes_of ns ks) 1 j l ∙ get_d_default (chosen n k) j 1 0 l ∙
        get_d_tabled (λ i. byte_if (eqb k (suc i))) 0 n j h ∙ ap (λ (x : ℕ). byte_if (eqb k (suc x))) (omega arith) ∙
        ap byte_if (sym (uses_here n k ns ks j h))

byte_cases : (b : Bool) → (byte_if b ≡ 1) ⊎ (byte_if b ≡ 2)
byte_cases true = inr refl
byte_cases false = inl refl

pub total-bytes_of : {ns ks : List ℕ} → SetupOf ns ks → Total (bytes_of ns ks)
total-bytes_of {ns} {ks} s = record { valued = λ i. rw (value_at-bytes_of s i) (byte_cases (uses ns ks i)) }

byte_true : (b : Bool) → eqb (byte_if b) 2 ≡ b
byte_true true = refl
byte_true false = refl

byte_false : (b : Bool) → eqb (byte_if b) 1 ≡ not b
byte_false true = refl
byte_false false = refl

pub is_true-bytes_of : {ns ks : List ℕ} → SetupOf ns ks → (l : ℤ) → is_true (bytes_of ns ks) l ≡ holds ns ks l
is_true-bytes_of {ns} {ks} s (pos n) = ap (λ (b : ℕ). eqb b 2) (value_at-bytes_of s (pred n)) ∙ byte_true (uses ns ks (pred n))
is_true-bytes_of {ns} {ks} s (negsuc n) = ap (λ (b : ℕ). eqb b 1) (value_at-bytes_of s n) ∙ byte_false (uses ns ks n)

pub keeps_bytes_of : {ns ks : List ℕ} → SetupOf ns ks → (F : List Clause) → satisfies (bytes_of ns ks) F ≡ keeps_all ns ks F
keeps_bytes_of {ns} {ks} s F =
    all_cong (has_true (bytes_of ns ks)) (any (holds ns ks)) F
    (λ cl x. any_cong (is_true (bytes_of ns ks)) (holds ns ks) cl (λ l y. is_true-bytes_of s l))

-- ---- and back

first_chosen : (i n k : ℕ) → i < k → k ≤ i + n → nth_index is_true_byte (tabled (λ j. byte_if (eqb k (suc j))) i n) 0 ≡ k - suc i
first_chosen i zero k a b = absurd (omega arith)
first_chosen i (suc n) k a b = go (both (eqb k (suc i))) (first_chosen (suc i) n k)
  where
    go : (eqb k (suc i) ≡ true) ⊎ (eqb k (suc i) ≡ false)
        → (suc i < k → k ≤ suc i + n → nth_index is_true_byte (tabled (λ j. byte_if (eqb k (suc j))) (suc i) n) 0 ≡ k - suc (suc i))
        → nth_index is_true_byte (tabled (λ j. byte_if (eqb k (suc j))) i (suc n)) 0 ≡ k - suc i
    go (inl e) ih = rw e (omega (arith, eqb-true k (suc i) e))
    go (inr e) ih = rw e (omega (arith, eqb-false k (suc i) e, ih (omega (arith, eqb-false k (suc i) e)) (omega arith)))

pub setup_in-bytes_of : {ns ks : List ℕ} → SetupOf ns ks → setup_in ns (bytes_of ns ks) ≡ ks
setup_in-bytes_of no_group = refl
setup_in-bytes_of (value {n} {k} {ns} {ks} a b s) =
    rw (take_at (chosen n k) (bytes_of ns ks) n (length-chosen n k), drop_at (chosen n k) (bytes_of ns ks) n (length-chosen n k), setup_in-bytes_of s)
    (ap (λ (x : ℕ). x ∷ ks) (omega (arith, first_chosen 0 n k a (omega arith))))

-- ---- value k of group g

index_lt : (ns : List ℕ) (g j : ℕ) → g < length ns → j < get_or ns g 0 → vars_in (take g ns) + j < vars_in ns
index_lt [] g j a b = absurd (omega arith)
index_lt (n ∷ ns) zero j a b = omega arith
index_lt (n ∷ ns) (suc g) j a b = omega (arith, index_lt ns g j (omega arith) b)

uses_index : {ns ks : List ℕ} → SetupOf ns ks → (g j : ℕ) → g < length ns → j < get_or ns g 0
    → uses ns ks (vars_in (take g ns) + j) ≡ eqb (get_or ks g 0) (suc j)
uses_index no_group g j a b = absurd (omega arith)
uses_index (value {n} {k} {ns} {ks} x y s) zero j a b = ap (uses (n ∷ ns) (k ∷ ks)) (omega arith) ∙ uses_here n k ns ks j b
uses_index (value {n} {k} {ns} {ks} x y s) (suc g) j a b =
    uses_later n k ns ks (n + vars_in (take g ns) + j) (omega arith) ∙ ap (uses ns ks) (omega arith) ∙ uses_index s g j (omega arith) b

pub index_in_lt : (ns : List ℕ) (g k : ℕ) → ValueOf ns g k → index_in ns g k < vars_in ns
index_in_lt ns zero k v = absurd (omega (arith, v.group_some))
index_in_lt ns (suc g) zero v = absurd (omega (arith, v.some))
index_in_lt ns (suc g) (suc k) v = index_lt ns g k v.group_most v.most

pub uses-value_of : {ns ks : List ℕ} → SetupOf ns ks → (g k : ℕ) → ValueOf ns g k → uses ns ks (index_in ns g k) ≡ eqb (value_in ks g) k
uses-value_of s zero k v = absurd (omega (arith, v.group_some))
uses-value_of s (suc g) zero v = absurd (omega (arith, v.some))
uses-value_of s (suc g) (suc k) v = uses_index s g k v.group_most v.most
