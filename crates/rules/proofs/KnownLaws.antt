-- What a run knows of the formula's models at each step: what is forced is in all of them, and what is free has its witness.
-- Compare, flip and a chunk without a model keep it so.
--
--   Known             what is known of the models, by the statuses
--   first_model_is    the first model is one
--   extends_forced    every model has the values forced so far
--   other_byte_valued  the other of the two bytes; flipped_model: a model with one variable flipped
--   known_more        one more model found
--   known_filtered    compare, then flip
--   known_none        a chunk without a model
--   proper_forced_values   the values that a chunk's call starts from
--
-- Assumes nothing.
use mathlib.Core.Path.{◌≡◌, refl, sym, ◌∙◌, ap}
use mathlib.Core.Logic.{◌≢◌, ◌⊎◌, inl, inr}
use mathlib.Core.Bool.{Bool, true, false, not}
use mathlib.Core.List.Memᴰ
use mathlib.Core.List.{List, [], ◌∷◌, ◌++◌}
use Prim.Native.Nat.{ℕ, zero, suc, ◌+◌, ◌≤◌, ◌<◌}
use native.Mathlib.Omega.{arith}
use native.Mathlib.Nat.{zero-add}
use lib.IntN.{ℤ}
use lib.Dec.{eqb}
use lib.ListN.{length, take, length-set, get_or-eq_default}
use lib.Seq.{get_or-set_same}
use borrow.Author.Tests.{eqb-true, eqb-false, eq-eqb}
use Rattle.rules.specs.Lists.{In}
use Rattle.rules.specs.Meaning.{Clause, Values, value_at, index_of, true_byte, negated, is_true, has_true, Model, Proper}
use Rattle.rules.specs.Models.{Extends, Witness, by_model_lem, by_flip, NoModelFrom}
use Rattle.rules.specs.Run.{Task, status_at, literal_at, candidates_from, freed_from, differs, other_byte, flipped}
use Rattle.rules.specs.Run.{can_flip, compared, flips, forced_by, force_first, forced_value, forced_values, constraint}
use Rattle.rules.proofs.ListLaws.{both, never, any_complete, in_map}
use Rattle.rules.proofs.MeaningLaws.{set_cases, satisfies-append}
use Rattle.rules.proofs.StatusLaws.{length-freed_from, freed_at, literal_at-negated, length-force_first}
use Rattle.rules.proofs.StatusLaws.{SetCases, force_first_at, forced_values_at, forced_value-forced_by, forced_value_le}

-- ---- what is known

-- of the formula's models, where `first` is the first model, `models` those found and ss the statuses
pub record Known (k : Task) (first : Values) (models : List Values) (ss : List ℕ) : Type 0 where
  pub first_in_lem : In first models
  pub models_are : (m : Values) → In m models → Model k.vars k.formula m
  pub len : length ss ≡ k.vars
  pub small : (i : ℕ) → status_at ss i ≤ 3
  pub forced : (i : ℕ) → 2 ≤ status_at ss i → (m : Values) → Model k.vars k.formula m → value_at m i ≡ forced_value (status_at ss i)
  pub free : (i : ℕ) → i < k.vars → status_at ss i ≡ 1 → Witness k.vars k.formula first models i

module _ {k : Task} {first : Values} {models : List Values} {ss : List ℕ} (w : Known k first models ss) where
  pub first_model_is : Model k.vars k.formula first
  first_model_is = w.models_are first w.first_in_lem

  -- every model of the formula has the values that are forced so far
  pub extends_forced : (m : Values) → Model k.vars k.formula m → Extends (forced_values ss) m
  extends_forced m x = record { agrees = λ i h. go i (forced_values_at ss i h) }
    where
      go : (i : ℕ) → SetCases ss i → value_at m i ≡ value_at (forced_values ss) i
      go i (inl (h, e)) = w.forced i h m x ∙ sym e
      go i (inr (h, e)) = get_or-eq_default m 1 (omega (arith, w.len, x.len)) ∙ sym e

-- ---- a model: what compare and flip drop is free

-- freeing what passes, where all that pass have a witness
known_freed : {k : Task} {first : Values} {models : List Values} {ss : List ℕ} (p : ℕ → Bool) → Known k first models ss
    → ((i : ℕ) → i < k.vars → p i ≡ true → Witness k.vars k.formula first models i) → Known k first models (freed_from 0 p ss)
known_freed {k} {first} {models} {ss} p w witness =
    record {
      first_in_lem = w.first_in_lem;
      models_are = w.models_are;
      len = length-freed_from 0 p ss ∙ w.len;
      small = λ i. small i (freed_at 0 p ss i);
      forced = λ i h m x. forced i h m x (freed_at 0 p ss i);
      free = λ i h e. free i h e (freed_at 0 p ss i);
    }
  where
    Cases : ℕ → Type 0
    Cases i = (status_at (freed_from 0 p ss) i ≡ status_at ss i) ⊎ ((status_at ss i ≡ 0) × (status_at (freed_from 0 p ss) i ≡ 1) × (p (0 + i) ≡ true))

    small : (i : ℕ) → Cases i → status_at (freed_from 0 p ss) i ≤ 3
    small i (inl e) = rw e (w.small i)
    small i (inr (z, e, h)) = rw e (omega arith)

    forced : (i : ℕ) → 2 ≤ status_at (freed_from 0 p ss) i → (m : Values) → Model k.vars k.formula m
        → Cases i → value_at m i ≡ forced_value (status_at (freed_from 0 p ss) i)
    forced i h m x (inl e) = rw e (w.forced i (rw e at h) m x)
    forced i h m x (inr (z, e, q)) = absurd (omega arith)

    free : (i : ℕ) → i < k.vars → status_at (freed_from 0 p ss) i ≡ 1 → Cases i → Witness k.vars k.formula first models i
    free i h e (inl q) = w.free i h (sym q ∙ e)
    free i h e (inr (z, q, b)) = witness i h (rw zero-add at b)

pub other_byte_valued : (b : ℕ) → (b ≡ 1) ⊎ (b ≡ 2) → ((other_byte b ≡ 1) ⊎ (other_byte b ≡ 2)) × (other_byte b ≢ b)
other_byte_valued b (inl e) = rw e (inr refl, omega arith)
other_byte_valued b (inr e) = rw e (inl refl, omega arith)

-- a model with one variable flipped, if it still satisfies the formula, is a model
pub flipped_model : (n : ℕ) (F : List Clause) (m : Values) (i : ℕ) → Model n F m → can_flip F m i ≡ true → Model n F (flipped m i)
flipped_model n F m i x h =
    record {
      len = length-set m i (other_byte (value_at m i)) ∙ x.len;
      total = record { valued = λ j. go j (set_cases m i (other_byte (value_at m i)) j) };
      all_true = h;
    }
  where
    go : (j : ℕ) → ((j ≡ i) × (value_at (flipped m i) j ≡ other_byte (value_at m i))) ⊎ (value_at (flipped m i) j ≡ value_at m j)
        → (value_at (flipped m i) j ≡ 1) ⊎ (value_at (flipped m i) j ≡ 2)
    go j (inl (e, q)) = rw q (other_byte_valued (value_at m i) (x.total.valued i)).0
    go j (inr q) = rw q (x.total.valued j)

module _ {n : ℕ} {F : List Clause} (first : Values) {models : List Values} {m : Values} (x : Model n F m) (h : In m models) where
  compare_witness : (i : ℕ) → differs first m i ≡ true → Witness n F first models i
  compare_witness i d = by_model_lem m h (λ e. never d (ap not (eq-eqb (value_at m i) (value_at first i) e)))

  flip_witness : (i : ℕ) → i < n → can_flip F m i ≡ true → Witness n F first models i
  flip_witness i l c = go (both (eqb (value_at m i) (value_at first i)))
    where
      at : value_at (flipped m i) i ≡ other_byte (value_at m i)
      at = get_or-set_same m i (other_byte (value_at m i)) 1 (rw x.len l)

      go : (eqb (value_at m i) (value_at first i) ≡ true) ⊎ (eqb (value_at m i) (value_at first i) ≡ false) → Witness n F first models i
      go (inl e) =
          by_flip m h (flipped_model n F m i x c) (λ q. (other_byte_valued (value_at m i) (x.total.valued i)).1 (sym at ∙ q ∙ sym (eqb-true _ _ e)))
      go (inr e) = by_model_lem m h (eqb-false _ _ e)

-- one more model
witness_mono : {n : ℕ} {F : List Clause} {first : Values} {models more : List Values} {i : ℕ}
    → ((m : Values) → In m models → In m more) → Witness n F first models i → Witness n F first more i
witness_mono s (by_model_lem m h d) = by_model_lem m (s m h) d
witness_mono s (by_flip m h x d) = by_flip m (s m h) x d

pub known_more : {k : Task} {first : Values} {models : List Values} {ss : List ℕ} (m : Values)
    → Model k.vars k.formula m → Known k first models ss → Known k first (models ++ (m ∷ [])) ss
known_more {k} {first} {models} {ss} m x w =
    record {
      first_in_lem = Memᴰ.append_left (m ∷ []) w.first_in_lem;
      models_are = λ d h. go d (Memᴰ.append_cases models h);
      len = w.len;
      small = w.small;
      forced = w.forced;
      free = λ i h e. witness_mono (λ d i. Memᴰ.append_left (m ∷ []) i) (w.free i h e);
    }
  where
    go : (d : Values) → In d models ⊎ In d (m ∷ []) → Model k.vars k.formula d
    go d (inl h) = w.models_are d h
    go d (inr h) = rw (Memᴰ.eq_of_singleton h) x

-- compare, then flip
pub known_filtered : {k : Task} {first : Values} {models : List Values} {ss : List ℕ} (m : Values) → Model k.vars k.formula m
    → In m models → Known k first models ss → Known k first models (flips k.formula m (compared first m ss))
known_filtered {k} {first} {models} {ss} m x h w =
    known_freed (can_flip k.formula m) (known_freed (differs first m) w (λ i l d. compare_witness first x h i d)) (λ i l c. flip_witness first x h i l c)

-- ---- no model: the whole chunk is forced

-- the values with which a chunk's call starts
pub proper_forced_values : (ss : List ℕ) → Proper (forced_values ss)
proper_forced_values ss = record { small = λ i. go ss i }
  where
    go : (ss : List ℕ) (i : ℕ) → value_at (forced_values ss) i ≤ 2
    go [] i = omega arith
    go (s ∷ ss) zero = forced_value_le s
    go (s ∷ ss) (suc i) = go ss i

pub known_none : {k : Task} {first : Values} {models : List Values} {ss : List ℕ} (n : ℕ) → Known k first models ss
    → NoModelFrom (k.formula ++ constraint (take n (candidates_from 0 first ss)) ∷ []) (forced_values ss)
    → Known k first models (force_first first ss n)
known_none {k} {first} {models} {ss} n w none =
    record {
      first_in_lem = w.first_in_lem;
      models_are = w.models_are;
      len = length-force_first first ss n ∙ w.len;
      small = λ i. small i (force_first_at 0 first ss n i);
      forced = λ i h m x. forced i h m x (force_first_at 0 first ss n i);
      free = λ i h e. free i h e (force_first_at 0 first ss n i);
    }
  where
    F : List Clause
    F = k.formula

    chunk : List ℤ
    chunk = take n (candidates_from 0 first ss)

    after : List ℕ
    after = force_first first ss n

    valued : (i : ℕ) → (value_at first i ≡ 1) ⊎ (value_at first i ≡ 2)
    valued i = (first_model_is w).total.valued i

    Cases : ℕ → Type 0
    Cases i = (status_at after i ≡ status_at ss i) ⊎ ((status_at after i ≡ forced_by (value_at first i)) × In (literal_at (0 + i) (value_at first i)) chunk)

    -- a model that has another value at i makes the constraint true, and there is none
    same : (i : ℕ) → In (literal_at (0 + i) (value_at first i)) chunk → (m : Values) → Model k.vars F m → value_at m i ≡ value_at first i
    same i h m x = go (both (eqb (value_at m i) (value_at first i)))
      where
        other : (b c : ℕ) → (b ≡ 1) ⊎ (b ≡ 2) → (c ≡ 1) ⊎ (c ≡ 2) → b ≢ c → b ≡ other_byte c
        other b c (inl p) (inl q) d = absurd (d (p ∙ sym q))
        other b c (inl p) (inr q) d = rw (p, q)
        other b c (inr p) (inl q) d = rw (p, q)
        other b c (inr p) (inr q) d = absurd (d (p ∙ sym q))

        negated_true : value_at m i ≢ value_at first i → is_true m (negated (literal_at (0 + i) (value_at first i))) ≡ true
        negated_true d =
            let (a, t) = literal_at-negated (0 + i) (value_at first i) (valued i) in
            eq-eqb (value_at m (index_of (negated (literal_at (0 + i) (value_at first i))))) (true_byte (negated (literal_at (0 + i) (value_at first i))))
            (rw (a, t, zero-add) (other (value_at m i) (value_at first i) (x.total.valued i) (valued i) d))

        go : (eqb (value_at m i) (value_at first i) ≡ true) ⊎ (eqb (value_at m i) (value_at first i) ≡ false) → value_at m i ≡ value_at first i
        go (inl e) = eqb-true _ _ e
        go (inr e) =
            let c : has_true m (constraint chunk) ≡ true = any_complete (is_true m) (in_map negated h) (negated_true (eqb-false _ _ e)) in
            absurd (none.none_from m (extends_forced w m x) x.total (satisfies-append m F (constraint chunk ∷ []) x.all_true (rw c)))

    small : (i : ℕ) → Cases i → status_at after i ≤ 3
    small i (inl e) = rw e (w.small i)
    small i (inr (e, h)) = rw e (le (value_at first i))
      where
        le : (b : ℕ) → forced_by b ≤ 3
        le zero = omega arith
        le (suc zero) = omega arith
        le (suc (suc b)) = omega arith

    forced : (i : ℕ) → 2 ≤ status_at after i → (m : Values) → Model k.vars F m → Cases i → value_at m i ≡ forced_value (status_at after i)
    forced i h m x (inl e) = rw e (w.forced i (rw e at h) m x)
    forced i h m x (inr (e, c)) = same i c m x ∙ sym (ap forced_value e ∙ forced_value-forced_by (value_at first i) (valued i))

    free : (i : ℕ) → i < k.vars → status_at after i ≡ 1 → Cases i → Witness k.vars F first models i
    free i h e (inl q) = w.free i h (sym q ∙ e)
    free i h e (inr (q, c)) = absurd (ne (value_at first i) (sym q ∙ e))
      where
        ne : (b : ℕ) → forced_by b ≢ 1
        ne zero = omega arith
        ne (suc zero) = omega arith
        ne (suc (suc b)) = omega arith
