-- The laws of statuses (specs/Run): what compare, flip and a chunk without a model do to them, candidates, and the values of the
-- forced literals.
--
--   count_if_add                   one more or not
--   Freed, freed_counts           freeing leaves the forced, and what is no longer open is free
--   length-freed_from, freed_at    what an index holds after freeing; opens_freed_lt: one that passes is no longer open
--   length_candidates, candidate_open     a candidate is the first model's literal of an open variable
--   literal_at_true, literal_at-negated     the literal at an index, and its negation
--   ForcedMore, force_first_counts n open variables become forced, and nothing else changes
--   length-force_first, ForcedCases, force_first_at     what an index holds then
--   ForcedIn, chunk_forced        each literal of the chunk was open, and is forced then
--   length-forced_values, SetCases, forced_values_at, forced_value-forced_by, forced_value_le     the values of the forced literals
--
-- Assumes nothing.
use mathlib.Core.Path.{◌≡◌, refl, ap}
use mathlib.Core.Logic.{◌≢◌, ◌⊎◌, inl, inr}
use mathlib.Core.Bool.{Bool, true, false}
use mathlib.Core.List.Memᴰ
use mathlib.Core.List.{List, [], ◌∷◌}
use Prim.Native.Nat.{ℕ, zero, suc, ◌+◌, ◌≤◌, ◌<◌}
use native.Mathlib.Omega.{arith}
use native.Mathlib.Nat.{add-zero, add-suc, suc-add}
use lib.IntN.{ℤ}
use lib.ListN.{length, take, length-map}
use Rattle.rules.specs.Lists.{In, count, count_if}
use Rattle.rules.specs.Meaning.{Values, value_at, index_of, true_byte, negated}
use Rattle.rules.specs.Run.{status_at, is_open, opens, literal_at, candidates_from, freed_if, freed_from}
use Rattle.rules.specs.Run.{other_byte, forced_by, force_first, forced_value, forced_values}
use Rattle.rules.specs.Answer.{is_free, is_forced}

-- ---- freeing

pub length-freed_from : (i : ℕ) (p : ℕ → Bool) (ss : List ℕ) → length (freed_from i p ss) ≡ length ss
length-freed_from i p [] = refl
length-freed_from i p (s ∷ ss) = ap suc (length-freed_from (suc i) p ss)

-- the three counts of one status after it is freed or not
freed_one : (b : Bool) (s : ℕ) → (count_if (is_forced (freed_if b s)) 0 ≡ count_if (is_forced s) 0)
    × (count_if (is_free (freed_if b s)) 0 + count_if (is_open (freed_if b s)) 0 ≡ count_if (is_free s) 0 + count_if (is_open s) 0)
    × (count_if (is_open (freed_if b s)) 0 ≤ count_if (is_open s) 0)
freed_one true zero = (refl, refl, omega arith)
freed_one true (suc s) = (refl, refl, omega arith)
freed_one false s = (refl, refl, omega arith)

pub count_if_add : (b : Bool) (n : ℕ) → count_if b n ≡ count_if b 0 + n
count_if_add true n = omega arith
count_if_add false n = omega arith

-- freeing leaves the forced, and what is no longer open is free
pub record Freed (ss ts : List ℕ) : Type 0 where
  pub forced_same : count is_forced ts ≡ count is_forced ss
  pub free_more : count is_free ts + opens ts ≡ count is_free ss + opens ss
  pub opens_le : opens ts ≤ opens ss

pub freed_counts : (i : ℕ) (p : ℕ → Bool) (ss : List ℕ) → Freed ss (freed_from i p ss)
freed_counts i p [] = record { forced_same = refl; free_more = refl; opens_le = omega arith }
freed_counts i p (s ∷ ss) =
    let ih = freed_counts (suc i) p ss in
    let one = freed_one (p i) s in
    let t = freed_if (p i) s in
    let ts = freed_from (suc i) p ss in
    record {
      forced_same = omega (arith, ih.forced_same, one.0, count_if_add (is_forced t) (count is_forced ts), count_if_add (is_forced s) (count is_forced ss));
      free_more =
          omega (
            arith,
            ih.free_more,
            one.1,
            count_if_add (is_free t) (count is_free ts),
            count_if_add (is_free s) (count is_free ss),
            count_if_add (is_open t) (opens ts),
            count_if_add (is_open s) (opens ss),
          );
      opens_le = omega (arith, ih.opens_le, one.2, count_if_add (is_open t) (opens ts), count_if_add (is_open s) (opens ss));
    }

-- what an index holds after freeing
pub freed_at : (j : ℕ) (p : ℕ → Bool) (ss : List ℕ) (i : ℕ)
    → (status_at (freed_from j p ss) i ≡ status_at ss i) ⊎ ((status_at ss i ≡ 0) × (status_at (freed_from j p ss) i ≡ 1) × (p (j + i) ≡ true))
freed_at j p [] i = inl refl
freed_at j p (s ∷ ss) zero = here (p j) refl s
  where
    here : (b : Bool) → p j ≡ b → (s : ℕ) → (freed_if b s ≡ s) ⊎ ((s ≡ 0) × (freed_if b s ≡ 1) × (p (j + 0) ≡ true))
    here true e zero = inr (refl, refl, rw add-zero e)
    here true e (suc s) = inl refl
    here false e s = inl refl
freed_at j p (s ∷ ss) (suc i) = rw (add-suc, ← suc-add) (freed_at (suc j) p ss i)

-- an open variable that passes is no longer open
pub opens_freed_lt : (j : ℕ) (p : ℕ → Bool) (ss : List ℕ) (i : ℕ) → status_at ss i ≡ 0 → p (j + i) ≡ true → opens (freed_from j p ss) < opens ss
opens_freed_lt j p [] i z h = absurd (omega arith)
opens_freed_lt j p (s ∷ ss) zero z h =
    let e : p j ≡ true = rw add-zero at h in rw (e, z) (omega (arith, (freed_counts (suc j) p ss).opens_le))
opens_freed_lt j p (s ∷ ss) (suc i) z h =
    let ih : opens (freed_from (suc j) p ss) < opens ss = opens_freed_lt (suc j) p ss i z (rw (add-suc, ← suc-add) at h) in
    let t = freed_if (p j) s in
    omega (arith, (freed_one (p j) s).2, count_if_add (is_open t) (opens (freed_from (suc j) p ss)), count_if_add (is_open s) (opens ss))

-- ---- candidates

pub length_candidates : (j : ℕ) (m : Values) (ss : List ℕ) → length m ≡ length ss → length (candidates_from j m ss) ≡ opens ss
length_candidates j [] [] h = refl
length_candidates j [] (s ∷ ss) h = absurd (omega arith)
length_candidates j (b ∷ m) [] h = absurd (omega arith)
length_candidates j (b ∷ m) (zero ∷ ss) h = ap suc (length_candidates (suc j) m ss (omega arith))
length_candidates j (b ∷ m) (suc s ∷ ss) h = length_candidates (suc j) m ss (omega arith)

-- a candidate is the first model's literal of an open variable
pub candidate_open : (j : ℕ) (m : Values) (ss : List ℕ) {l : ℤ} → In l (candidates_from j m ss)
    → (i : ℕ) × (l ≡ literal_at (j + i) (value_at m i)) × (status_at ss i ≡ 0)
candidate_open j [] ss h = absurd (Memᴰ.not-nil h)
candidate_open j (b ∷ m) [] h = absurd (Memᴰ.not-nil h)
candidate_open j (b ∷ m) (zero ∷ ss) (Memᴰ.head e) = (0, rw add-zero e, refl)
candidate_open j (b ∷ m) (zero ∷ ss) (Memᴰ.tail h) =
    let (i, e, z) = candidate_open (suc j) m ss h in (suc i, rw (add-suc, ← suc-add) e, z)
candidate_open j (b ∷ m) (suc s ∷ ss) h =
    let (i, e, z) = candidate_open (suc j) m ss h in (suc i, rw (add-suc, ← suc-add) e, z)

pub literal_at_true : (i b : ℕ) → (b ≡ 1) ⊎ (b ≡ 2) → (index_of (literal_at i b) ≡ i) × (true_byte (literal_at i b) ≡ b)
literal_at_true i b (inl e) = rw e (refl, refl)
literal_at_true i b (inr e) = rw e (refl, refl)

pub literal_at-negated : (i b : ℕ) → (b ≡ 1) ⊎ (b ≡ 2) → (index_of (negated (literal_at i b)) ≡ i) × (true_byte (negated (literal_at i b)) ≡ other_byte b)
literal_at-negated i b (inl e) = rw e (refl, refl)
literal_at-negated i b (inr e) = rw e (refl, refl)

-- ---- forcing the lowest open variables

pub length-force_first : (m : Values) (ss : List ℕ) (n : ℕ) → length (force_first m ss n) ≡ length ss
length-force_first [] ss n = refl
length-force_first (b ∷ m) [] n = refl
length-force_first (b ∷ m) (zero ∷ ss) zero = refl
length-force_first (b ∷ m) (zero ∷ ss) (suc n) = ap suc (length-force_first m ss n)
length-force_first (b ∷ m) (suc s ∷ ss) n = ap suc (length-force_first m ss n)

-- n open variables become forced, and nothing else changes
pub record ForcedMore (n : ℕ) (ss ts : List ℕ) : Type 0 where
  pub forced_more : count is_forced ts ≡ count is_forced ss + n
  pub free_same : count is_free ts ≡ count is_free ss
  pub opens_less : opens ts + n ≡ opens ss

forced_by_one : (b : ℕ) → (is_forced (forced_by b) ≡ true) × (is_free (forced_by b) ≡ false) × (is_open (forced_by b) ≡ false)
forced_by_one zero = (refl, refl, refl)
forced_by_one (suc zero) = (refl, refl, refl)
forced_by_one (suc (suc b)) = (refl, refl, refl)

pub force_first_counts : (m : Values) (ss : List ℕ) (n : ℕ) → length m ≡ length ss → n ≤ opens ss → ForcedMore n ss (force_first m ss n)
force_first_counts [] [] n e h = record { forced_more = omega arith; free_same = refl; opens_less = omega arith }
force_first_counts [] (s ∷ ss) n e h = absurd (omega arith)
force_first_counts (b ∷ m) [] n e h = absurd (omega arith)
force_first_counts (b ∷ m) (zero ∷ ss) zero e h = record { forced_more = omega arith; free_same = refl; opens_less = omega arith }
force_first_counts (b ∷ m) (zero ∷ ss) (suc n) e h =
    let ih = force_first_counts m ss n (omega arith) (omega arith) in
    let (f, r, o) = forced_by_one b in
    record { forced_more = rw f (omega (arith, ih.forced_more)); free_same = rw r ih.free_same; opens_less = rw o (omega (arith, ih.opens_less)) }
force_first_counts (b ∷ m) (suc s ∷ ss) n e h =
    let ih = force_first_counts m ss n (omega arith) h in
    record {
      forced_more =
          omega (
            arith,
            ih.forced_more,
            count_if_add (is_forced (suc s)) (count is_forced (force_first m ss n)),
            count_if_add (is_forced (suc s)) (count is_forced ss),
          );
      free_same = ap (count_if (is_free (suc s))) ih.free_same;
      opens_less = ih.opens_less;
    }

-- what an index holds afterwards: what it held, or it was open, its literal is in the chunk, and its status is forced by its byte
abbrev pub ForcedCases : ℕ → Values → List ℕ → ℕ → ℕ → Type 0
ForcedCases j m ss n i =
    (status_at (force_first m ss n) i ≡ status_at ss i)
    ⊎ ((status_at (force_first m ss n) i ≡ forced_by (value_at m i)) × In (literal_at (j + i) (value_at m i)) (take n (candidates_from j m ss)))

pub force_first_at : (j : ℕ) (m : Values) (ss : List ℕ) (n i : ℕ) → ForcedCases j m ss n i
force_first_at j [] ss n i = inl refl
force_first_at j (b ∷ m) [] n i = inl refl
force_first_at j (b ∷ m) (zero ∷ ss) zero i = inl refl
force_first_at j (b ∷ m) (zero ∷ ss) (suc n) zero = inr (refl, Memᴰ.head {x = literal_at j b} (rw add-zero))
force_first_at j (b ∷ m) (zero ∷ ss) (suc n) (suc i) = go (force_first_at (suc j) m ss n i)
  where
    go : ForcedCases (suc j) m ss n i → ForcedCases j (b ∷ m) (zero ∷ ss) (suc n) (suc i)
    go (inl e) = inl e
    go (inr (e, h)) = inr (e, rw (add-suc, ← suc-add) (Memᴰ.tail h))
force_first_at j (b ∷ m) (suc s ∷ ss) n zero = inl refl
force_first_at j (b ∷ m) (suc s ∷ ss) n (suc i) = rw (add-suc, ← suc-add) (force_first_at (suc j) m ss n i)

-- l is a literal of the first model, of a variable that was open and is forced then; the first variable stands at index j
pub record ForcedIn (j : ℕ) (m : Values) (ss : List ℕ) (n : ℕ) (l : ℤ) : Type 0 where
  pub index : ℕ
  pub literal : l ≡ literal_at (j + index) (value_at m index)
  pub forced : status_at (force_first m ss n) index ≡ forced_by (value_at m index)
  pub was_open : status_at ss index ≡ 0

pub chunk_forced : (j : ℕ) (m : Values) (ss : List ℕ) (n : ℕ) {l : ℤ} → In l (take n (candidates_from j m ss)) → ForcedIn j m ss n l
chunk_forced j [] ss zero h = absurd (Memᴰ.not-nil h)
chunk_forced j [] ss (suc n) h = absurd (Memᴰ.not-nil h)
chunk_forced j (b ∷ m) [] zero h = absurd (Memᴰ.not-nil h)
chunk_forced j (b ∷ m) [] (suc n) h = absurd (Memᴰ.not-nil h)
chunk_forced j (b ∷ m) (zero ∷ ss) zero h = absurd (Memᴰ.not-nil h)
chunk_forced j (b ∷ m) (zero ∷ ss) (suc n) (Memᴰ.head e) =
    record { index = 0; literal = rw add-zero e; forced = refl; was_open = refl }
chunk_forced j (b ∷ m) (zero ∷ ss) (suc n) (Memᴰ.tail h) =
    let f = chunk_forced (suc j) m ss n h in
    record { index = suc f.index; literal = rw (add-suc, ← suc-add) f.literal; forced = f.forced; was_open = f.was_open }
chunk_forced j (b ∷ m) (suc s ∷ ss) n h =
    let f = chunk_forced (suc j) m ss n h in
    record { index = suc f.index; literal = rw (add-suc, ← suc-add) f.literal; forced = f.forced; was_open = f.was_open }

-- ---- the values of the forced literals

pub length-forced_values : (ss : List ℕ) → length (forced_values ss) ≡ length ss
length-forced_values ss = length-map ss forced_value

-- a value that is set is that of a forced variable, or there is no such variable
abbrev pub SetCases : List ℕ → ℕ → Type 0
SetCases ss i =
    ((2 ≤ status_at ss i) × (value_at (forced_values ss) i ≡ forced_value (status_at ss i)))
    ⊎ ((length ss ≤ i) × (value_at (forced_values ss) i ≡ 1))

pub forced_values_at : (ss : List ℕ) (i : ℕ) → value_at (forced_values ss) i ≢ 0 → SetCases ss i
forced_values_at [] i h = inr (omega arith, refl)
forced_values_at (zero ∷ ss) zero h = absurd (h refl)
forced_values_at (suc zero ∷ ss) zero h = absurd (h refl)
forced_values_at (suc (suc s) ∷ ss) zero h = inl (omega arith, refl)
forced_values_at (s ∷ ss) (suc i) h = go (forced_values_at ss i h)
  where
    go : SetCases ss i → SetCases (s ∷ ss) (suc i)
    go (inl e) = inl e
    go (inr (e, f)) = inr (omega arith, f)

pub forced_value-forced_by : (b : ℕ) → (b ≡ 1) ⊎ (b ≡ 2) → forced_value (forced_by b) ≡ b
forced_value-forced_by b (inl e) = rw e
forced_value-forced_by b (inr e) = rw e

pub forced_value_le : (s : ℕ) → forced_value s ≤ 2
forced_value_le zero = omega arith
forced_value_le (suc zero) = omega arith
forced_value_le (suc (suc zero)) = omega arith
forced_value_le (suc (suc (suc s))) = omega arith
