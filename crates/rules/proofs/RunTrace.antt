-- The laws of specs/Trace: what is known at every progress that a run reaches, that every call after the first settles a candidate,
-- and that every run ends as it says.
--
--   run_ends          every run ends so
--   first_is_model, chunk_is_model, first_none_of     what the calls say of the formula's models
--   known             what is known at every progress that is reached
--   taken_is, taken_min, doubled_is, doubled_min     the sizes of specs/Trace are those of specs/Run
--   size_pos          the chunk size is never 0
--   takes_some        a chunk has a candidate, and no more than there are
--   model_drops, none_forces     every call after the first settles a candidate
--   call_leaves       what every call after the first does to the statuses
--
-- Assumes nothing.
use mathlib.Core.Path.{◌≡◌, refl, sym, ◌∙◌, ap}
use mathlib.Core.Logic.{◌≢◌, ◌⊎◌, inl, inr}
use mathlib.Core.Bool.{true, not}
use mathlib.Core.List.Memᴰ
use mathlib.Core.List.{List, [], ◌∷◌, ◌++◌}
use Prim.Native.Nat.{ℕ, zero, suc, ◌+◌, ◌≤◌, ◌<◌, min}
use native.Mathlib.Omega.{arith}
use native.Mathlib.Nat.{zero-add}
use lib.IntN.{ℤ}
use lib.ListN.{length, take, replicate, length-replicate}
use lib.Seq.{length-take-le}
use borrow.Author.Tests.{eqb-true, ne_eqb}
use Rattle.rules.specs.Lists.{In}
use Rattle.rules.specs.Meaning.{Values, value_at, index_of, true_byte, negated, is_true, has_true, Total, Model}
use Rattle.rules.specs.Search.{Call, model, no_model, stopped}
use Rattle.rules.specs.Models.{LeastModel, NoModelFrom}
use Rattle.rules.specs.Run.{Task, Progress, status_at, is_forced_to, opens, literal_at, candidates_from, differs}
use Rattle.rules.specs.Run.{other_byte, can_flip, compared, filtered, force_first, blank, forced_values, chunk_of}
use Rattle.rules.specs.Run.{constraint, chunk_call, on_call, on_open, chunks_in, chunks, on_first, first_call, run}
use Rattle.rules.specs.Trace.{Taken, as_many, all_left, Takes, Doubled, twice, at_limit, FreesSome, ForcesChunk, Leaves}
use Rattle.rules.specs.Trace.{Reached, first_model, next_model, next_none, Ends, first_none, first_stopped, settled, next_stopped}
use Rattle.rules.proofs.ListLaws.{le_or_lt, any_sound, and_left, map_in, in_take}
use Rattle.rules.proofs.MeaningLaws.{blank_proper, satisfies-left, satisfies_right}
use Rattle.rules.proofs.SearchLaws.{Says, call_on_says}
use Rattle.rules.proofs.KnownLaws.{Known, first_model_is, other_byte_valued, known_more, known_filtered, known_none, proper_forced_values}
use Rattle.rules.proofs.StatusLaws.{freed_counts, opens_freed_lt, ForcedMore, force_first_counts, ForcedIn, chunk_forced, length_candidates}
use Rattle.rules.proofs.StatusLaws.{ForcedCases, freed_at, candidate_open, literal_at_true, literal_at-negated, force_first_at, length-forced_values}

-- ---- what the calls say

first_says : (k : Task) → Says k.formula (blank k.vars) (first_call k)
unfolding first_call
first_says k = call_on_says k.budget k.formula (blank k.vars) 0 (blank_proper k.vars)

chunk_says : (k : Task) (p : Progress) (n : ℕ) → Says (k.formula ++ constraint (chunk_of p n) ∷ []) (forced_values p.statuses) (chunk_call k p n)
unfolding chunk_call
chunk_says k p n =
    call_on_says k.budget (k.formula ++ constraint (chunk_of p n) ∷ []) (forced_values p.statuses) p.tries (proper_forced_values p.statuses)

-- a model that the first call finds, and one that a chunk's call finds
first_model_of : (k : Task) (m : Values) (t : ℕ) → first_call k ≡ model m t → LeastModel k.formula (blank k.vars) m
first_model_of k m t e = rw e at (first_says k)

pub first_none_of : (k : Task) (t : ℕ) → first_call k ≡ no_model t → NoModelFrom k.formula (blank k.vars)
first_none_of k t e = rw e at (first_says k)

chunk_model_of : (k : Task) (p : Progress) (n : ℕ) (m : Values) (t : ℕ) → chunk_call k p n ≡ model m t
    → LeastModel (k.formula ++ constraint (chunk_of p n) ∷ []) (forced_values p.statuses) m
chunk_model_of k p n m t e = rw e at (chunk_says k p n)

chunk_none_of : (k : Task) (p : Progress) (n t : ℕ) → chunk_call k p n ≡ no_model t
    → NoModelFrom (k.formula ++ constraint (chunk_of p n) ∷ []) (forced_values p.statuses)
chunk_none_of k p n t e = rw e at (chunk_says k p n)

pub first_is_model : (k : Task) (m : Values) (t : ℕ) → first_call k ≡ model m t → Model k.vars k.formula m
first_is_model k m t e =
    let s = first_model_of k m t e in
    record { len = s.len ∙ length-replicate k.vars 0; total = s.total; all_true = s.all_true }

pub chunk_is_model : (k : Task) (p : Progress) (n : ℕ) (m : Values) (t : ℕ)
    → length p.statuses ≡ k.vars → chunk_call k p n ≡ model m t → Model k.vars k.formula m
chunk_is_model k p n m t h e =
    let s = chunk_model_of k p n m t e in
    record {
      len = s.len ∙ length-forced_values p.statuses ∙ h;
      total = s.total;
      all_true = satisfies-left m k.formula (constraint (chunk_of p n) ∷ []) s.all_true;
    }

-- ---- what is known at each progress

blank_status : (n i : ℕ) → ((status_at (replicate n 0) i ≡ 0) × (i < n)) ⊎ ((status_at (replicate n 0) i ≡ 1) × (n ≤ i))
blank_status zero i = inr (refl, omega arith)
blank_status (suc n) zero = inl (refl, omega arith)
blank_status (suc n) (suc i) =
    elim (blank_status n i) [ inl p ↦ inl (p.0, omega (arith, p.1)) | inr p ↦ inr (p.0, omega (arith, p.1)) ]

known_begun : (k : Task) (m : Values) → Model k.vars k.formula m → Known k m (m ∷ []) (replicate k.vars 0)
known_begun k m x =
    record {
      first_in_lem = Memᴰ.head refl;
      models_are = λ d h. rw (Memᴰ.eq_of_singleton h) x;
      len = length-replicate k.vars 0;
      small = λ i. le i (blank_status k.vars i);
      forced = λ i h. absurd (le_one i (blank_status k.vars i) h);
      free = λ i h e. absurd (not_free_lem i h e (blank_status k.vars i));
    }
  where
    Cases : ℕ → Type 0
    Cases i = ((status_at (replicate k.vars 0) i ≡ 0) × (i < k.vars)) ⊎ ((status_at (replicate k.vars 0) i ≡ 1) × (k.vars ≤ i))

    le : (i : ℕ) → Cases i → status_at (replicate k.vars 0) i ≤ 3
    le i (inl c) = omega (arith, c.0)
    le i (inr c) = omega (arith, c.0)

    le_one : (i : ℕ) → Cases i → 2 ≤ status_at (replicate k.vars 0) i → ⊥
    le_one i (inl c) h = omega (arith, c.0)
    le_one i (inr c) h = omega (arith, c.0)

    not_free_lem : (i : ℕ) → i < k.vars → status_at (replicate k.vars 0) i ≡ 1 → Cases i → ⊥
    not_free_lem i h e (inl c) = omega (arith, c.0)
    not_free_lem i h e (inr c) = omega (arith, c.1)

pub known : {k : Task} {size : ℕ} {p : Progress} → Reached k size p → Known k p.first p.models p.statuses
known {k} (first_model m t e) =
    let x = first_is_model k m t e in known_filtered m x (Memᴰ.head refl) (known_begun k m x)
known {k} (next_model {chunk = chunk} {p = p} m t r o e) =
    let w = known r in
    let x = chunk_is_model k p chunk m t w.len e in
    known_filtered m x (Memᴰ.append_right p.models (Memᴰ.head refl)) (known_more m x w)
known {k} (next_none {chunk = chunk} {p = p} t r o e d) = known_none chunk (known r) (chunk_none_of k p chunk t e)

-- ---- every call settles a candidate

pub taken_is : {size n chunk : ℕ} → Taken size n chunk → chunk ≡ min size n
taken_is (as_many h) = omega arith
taken_is (all_left h) = omega arith

pub taken_min : (size n : ℕ) → Taken size n (min size n)
taken_min size n = go (le_or_lt size n)
  where
    go : (size ≤ n) ⊎ (n < size) → Taken size n (min size n)
    go (inl h) = let e : min size n ≡ size = omega arith in rw e (as_many h)
    go (inr h) = let e : min size n ≡ n = omega arith in rw e (all_left h)

pub doubled_is : {size limit next : ℕ} → Doubled size limit next → next ≡ min (size + size) limit
doubled_is (twice h) = omega arith
doubled_is (at_limit h) = omega arith

pub doubled_min : (size limit : ℕ) → Doubled size limit (min (size + size) limit)
doubled_min size limit = go (le_or_lt (size + size) limit)
  where
    go : (size + size ≤ limit) ⊎ (limit < size + size) → Doubled size limit (min (size + size) limit)
    go (inl h) = let e : min (size + size) limit ≡ size + size = omega arith in rw e (twice h)
    go (inr h) = let e : min (size + size) limit ≡ limit = omega arith in rw e (at_limit h)

pub size_pos : {k : Task} {size : ℕ} {p : Progress} → 1 ≤ k.limit → Reached k size p → 1 ≤ size
size_pos h (first_model m t e) = omega arith
size_pos h (next_model m t r o e) = omega arith
size_pos h (next_none t r o e d) = omega (arith, size_pos h r, doubled_is d)

-- a chunk that is taken has at least one candidate, and no more than there are
pub takes_some : {k : Task} {size chunk : ℕ} {p : Progress} → 1 ≤ k.limit → Reached k size p → Takes size p chunk
    → (1 ≤ chunk) × (chunk ≤ opens p.statuses)
takes_some h r w = (omega (arith, size_pos h r, w.remain, taken_is w.taken), omega (arith, taken_is w.taken))

-- values that make the constraint of a chunk true differ from the first model at an open variable
constraint-differs : (first : Values) → Total first → (ss : List ℕ) (n : ℕ) (m : Values)
    → has_true m (constraint (take n (candidates_from 0 first ss))) ≡ true → (i : ℕ) × (status_at ss i ≡ 0) × (differs first m i ≡ true)
constraint-differs first total ss n m h =
    let (y, i, t) = any_sound (is_true m) (constraint (take n (candidates_from 0 first ss))) h in
    let (l, j, e) = map_in negated (take n (candidates_from 0 first ss)) i in
    let (x, q, z) = candidate_open 0 first ss (in_take n (candidates_from 0 first ss) j) in
    (x, z, ap not (ne_eqb (value_at m x) (value_at first x) (apart x (rw (e, q, zero-add) at t))))
  where
    apart : (x : ℕ) → is_true m (negated (literal_at x (value_at first x))) ≡ true → value_at m x ≢ value_at first x
    apart x t d =
        let (a, b) = literal_at-negated x (value_at first x) (total.valued x) in
        (other_byte_valued (value_at first x) (total.valued x)).1 (sym (byte a b) ∙ d)
      where
        byte : index_of (negated (literal_at x (value_at first x))) ≡ x
            → true_byte (negated (literal_at x (value_at first x))) ≡ other_byte (value_at first x) → value_at m x ≡ other_byte (value_at first x)
        byte a b = ap (value_at m) (sym a) ∙ eqb-true _ _ t ∙ b

pub model_drops : {k : Task} {size : ℕ} {p : Progress} (n : ℕ) (m : Values) (t : ℕ)
    → Reached k size p → chunk_call k p n ≡ model m t → opens (filtered k p m) < opens p.statuses
model_drops {k} {size} {p} n m t r e =
    let s = chunk_model_of k p n m t e in
    let cl = constraint (chunk_of p n) in
    let c : has_true m cl ≡ true = and_left (has_true m cl) true (satisfies_right m k.formula (cl ∷ []) s.all_true) in
    let (i, z, d) = constraint-differs p.first (first_model_is (known r)).total p.statuses n m c in
    omega (
      arith,
      opens_freed_lt 0 (differs p.first m) p.statuses i z (rw zero-add d),
      (freed_counts 0 (can_flip k.formula m) (compared p.first m p.statuses)).opens_le,
    )

pub none_forces : {k : Task} {size : ℕ} {p : Progress} (n : ℕ) → Reached k size p
    → n ≤ opens p.statuses → ForcedMore n p.statuses (force_first p.first p.statuses n)
none_forces {k} {size} {p} n r h =
    let w = known r in force_first_counts p.first p.statuses n ((first_model_is w).len ∙ sym w.len) h

-- a model frees some: fewer are open, and what compare and flip leave is open, free or as it was
frees_some : (k : Task) (p : Progress) (m : Values) → opens (filtered k p m) < opens p.statuses → FreesSome p.statuses (filtered k p m)
frees_some k p m h =
    record {
      more = omega (arith, (freed_counts 0 (differs p.first m) ss).free_more, (freed_counts 0 (can_flip k.formula m) cs).free_more);
      rest = λ i. go i (freed_at 0 (can_flip k.formula m) cs i) (freed_at 0 (differs p.first m) ss i);
    }
  where
    ss : List ℕ
    ss = p.statuses

    cs : List ℕ
    cs = compared p.first m ss

    go : (i : ℕ)
        → (status_at (filtered k p m) i ≡ status_at cs i) ⊎ ((status_at cs i ≡ 0) × (status_at (filtered k p m) i ≡ 1) × (can_flip k.formula m (0 + i) ≡ true))
        → (status_at cs i ≡ status_at ss i) ⊎ ((status_at ss i ≡ 0) × (status_at cs i ≡ 1) × (differs p.first m (0 + i) ≡ true))
        → (status_at (filtered k p m) i ≡ status_at ss i) ⊎ ((status_at ss i ≡ 0) × (status_at (filtered k p m) i ≡ 1))
    go i (inl a) (inl b) = inl (a ∙ b)
    go i (inl a) (inr (z, o, d)) = inr (z, a ∙ o)
    go i (inr (z, o, d)) (inl b) = inr (sym b ∙ z, o)
    go i (inr (z, o, d)) (inr (y, q, e)) = absurd (omega arith)

-- none forces the chunk
forces_chunk : {k : Task} {size : ℕ} {p : Progress} (n : ℕ) → Reached k size p → 1 ≤ n → n ≤ opens p.statuses
    → ForcesChunk (chunk_of p n) p.statuses (force_first p.first p.statuses n)
forces_chunk {k} {size} {p} n r some most =
    record {
      some = rw many some;
      each = λ l h. go l (chunk_forced 0 first ss n h);
      more = rw many (none_forces n r most).forced_more;
      rest = λ i ne. changed i ne (force_first_at 0 first ss n i);
    }
  where
    first : Values
    first = p.first

    ss : List ℕ
    ss = p.statuses

    valued : (i : ℕ) → (value_at first i ≡ 1) ⊎ (value_at first i ≡ 2)
    valued i = (first_model_is (known r)).total.valued i

    many : length (chunk_of p n) ≡ n
    many =
        length-take-le n (candidates_from 0 first ss)
        (omega (arith, length_candidates 0 first ss ((first_model_is (known r)).len ∙ sym (known r).len)))

    go : (l : ℤ) → ForcedIn 0 first ss n l → is_forced_to (force_first first ss n) l
    go l f =
        let (a, t) = literal_at_true (0 + f.index) (value_at first f.index) (valued f.index) in
        rw (f.literal, a, t, zero-add) f.forced

    changed : (i : ℕ) → status_at (force_first first ss n) i ≢ status_at ss i
        → ForcedCases 0 first ss n i → (l : ℤ) × In l (chunk_of p n) × (index_of l ≡ i) × (status_at ss i ≡ 0)
    changed i ne (inl e) = absurd (ne e)
    changed i ne (inr (e, h)) = (l, h, at_i, rw (sym same) f.was_open)
      where
        l : ℤ
        l = literal_at (0 + i) (value_at first i)

        at_i : index_of l ≡ i
        at_i = (literal_at_true (0 + i) (value_at first i) (valued i)).0 ∙ zero-add i

        f : ForcedIn 0 first ss n l
        f = chunk_forced 0 first ss n h

        same : f.index ≡ i
        same =
            sym (ap index_of f.literal ∙ (literal_at_true (0 + f.index) (value_at first f.index) (valued f.index)).0 ∙ zero-add f.index) ∙ at_i

pub call_leaves : {k : Task} {size chunk : ℕ} {p : Progress} → 1 ≤ k.limit → Reached k size p → Takes size p chunk → Leaves (chunk_call k p chunk) k p chunk
call_leaves {k} {size} {chunk} {p} h r w = go (chunk_call k p chunk) refl
  where
    go : (c : Call) → chunk_call k p chunk ≡ c → Leaves c k p chunk
    go (model m t) e = frees_some k p m (model_drops chunk m t r e)
    go (no_model t) e = let (some, most) = takes_some h r w in forces_chunk chunk r some most
    go (stopped t) e = refl

-- ---- how a run ends

pub takes_min : (size : ℕ) (p : Progress) {n : ℕ} → opens p.statuses ≡ suc n → Takes size p (min size (suc n))
takes_min size p {n} z =
    record { remain = omega arith; taken = rw (sym z) (taken_min size (opens p.statuses)) }

chunks_in_ends : {k : Task} → 1 ≤ k.limit → (n : ℕ) {size : ℕ} {p : Progress} → Reached k size p → opens p.statuses ≤ n → Ends k (chunks_in n k size p)
unfolding chunks_in
chunks_in_ends {k} h zero r o = settled r (omega arith)
chunks_in_ends {k} h (suc n) {size} {p} r o = on_open_lem (opens p.statuses) refl (λ s q rq oq. chunks_in_ends h n rq oq)
  where
    IH : Type 0
    IH = (s : ℕ) (q : Progress) → Reached k s q → opens q.statuses ≤ n → Ends k (chunks_in n k s q)

    on_call_lem : (j : ℕ) → opens p.statuses ≡ suc j → IH → (c : Call) → chunk_call k p (min size (suc j)) ≡ c
        → Ends k (on_call c k p size (min size (suc j)) (λ s q. chunks_in n k s q))
    on_call_lem j z ih (model m t) e = ih _ _ (next_model m t r (takes_min size p z) e) (omega (arith, model_drops (min size (suc j)) m t r e))
    on_call_lem j z ih (no_model t) e =
        ih _ _ (next_none t r (takes_min size p z) e (doubled_min size k.limit))
        (omega (arith, size_pos h r, (none_forces (min size (suc j)) r (omega arith)).opens_less))
    on_call_lem j z ih (stopped t) e = next_stopped t r (takes_min size p z) e

    on_open_lem : (j : ℕ) → opens p.statuses ≡ j → IH → Ends k (on_open j k size p (λ s q. chunks_in n k s q))
    on_open_lem zero z ih = settled r z
    on_open_lem (suc j) z ih = on_call_lem j z ih (chunk_call k p (min size (suc j))) refl

pub run_ends : (k : Task) → 1 ≤ k.limit → Ends k (run k)
unfolding run chunks
run_ends k h = on_first_lem (first_call k) refl
  where
    on_first_lem : (c : Call) → first_call k ≡ c → Ends k (on_first c k)
    on_first_lem (model m t) e = chunks_in_ends h _ (first_model m t e) (omega arith)
    on_first_lem (no_model t) e = first_none t e
    on_first_lem (stopped t) e = first_stopped t e
