-- The laws of specs/Answer: the tests by which a run is refused, each against what the table of docs/RULES.md says.
--
--   Nth, nth_index_split, nth_index_at      the element at nth_index, and back
--   nth_index_none, nth_index_below, nth_index_above     how many pass, by the index
--   is_ended_snoc, is_ended_last    empty or ended by 0
--   limits_sound, limits_complete, limits_false, limits_of     the test of 10, both ways
--   room_sound, room_complete, room_false, room_of     the test of 1, both ways
--   list_false                    a list that no case of 11 refuses
--   list_long_first, not_ended_first, zero_over_first, above_first, list_first     the first rule that refuses a list, or none
--   lent_alone                    a run of a list for which nothing else is wrong has room
--   refusal_lent                  where 10 and 1 are not to be given, the refusal is the list's or the held literals'
--   first_front, first_back       the first of two lists of rules
--   no_literal_sound, no_literal_complete, no_literal_false, no_literal_of     the test of 13, both ways
--   many_held_first, bad_held_first, held_first     the first rule that refuses held literals, or none
--
-- Assumes nothing.
use mathlib.Core.Path.{◌≡◌, refl, ap}
use mathlib.Core.Logic.{◌≢◌, ◌⊎◌, inl, inr}
use mathlib.Core.Bool.{Bool, true, false, ◌||◌, or-true}
use mathlib.Core.List.{List, [], ◌∷◌, ◌++◌}
use mathlib.Core.Option.{none, some}
use Prim.Native.Nat.{ℕ, zero, suc, ◌≤◌, ◌<◌}
use native.Mathlib.Omega.{arith}
use lib.IntN.{ℤ}
use lib.Dec.{eqb, ltb}
use lib.ListN.{length, length-append, length-replicate}
use borrow.Author.Tests.{eqb-true, eqb-false, eq-eqb, ne_eqb, ltb-true, ltb-false, lt-ltb, le-ltb}
use Rattle.rules.specs.declared.Refusal.{Refusal}
use Rattle.rules.specs.Lists.{any, count, count_if, index_if, nth_index, Check, or_next, first_of, is_zero}
use Rattle.rules.specs.Numbers.{max_vars, max_clauses, max_entries, max_chunk, max_held}
use Rattle.rules.specs.Meaning.{var_of, LitUpTo}
use Rattle.rules.specs.Held.{is_no_literal, held_rules}
use Rattle.rules.specs.Answer.{Given, log_length, is_ended, is_above, list_rules, out_of_limits, is_short, refusal_of}
use Rattle.rules.specs.RunRefusals.{InLimits, Lent, TooShort, short_status, short_calls, short_ways, short_hints, short_log, Listed, list_alone}
use Rattle.rules.proofs.ListLaws.{apart, le_or_lt, never, or_cases, or_left, or_right}

-- ---- the element that passes and has n passing elements before it

pub record Nth {A : Type 0} (p : A → Bool) (xs : List A) (n : ℕ) : Type 0 where
  pub front : List A
  pub this : A
  pub back : List A
  pub split : xs ≡ front ++ this ∷ back
  pub passes : p this ≡ true
  pub before : count p front ≡ n
  pub index : nth_index p xs n ≡ length front

module _ {A : Type 0} (p : A → Bool) where
  pub nth_index_at : (front : List A) (x : A) (back : List A) → p x ≡ true → nth_index p (front ++ x ∷ back) (count p front) ≡ length front
  nth_index_at [] x back h = rw h
  nth_index_at (y ∷ front) x back h = go (p y) refl (nth_index_at front x back h)
    where
      go : (b : Bool) → p y ≡ b → nth_index p (front ++ x ∷ back) (count p front) ≡ length front
          → index_if b (count_if b (count p front)) (λ k. nth_index p (front ++ x ∷ back) k) ≡ suc (length front)
      go true e ih = ap suc ih
      go false e ih = ap suc ih

  pub nth_index_split : (xs : List A) (n : ℕ) → n < count p xs → Nth p xs n
  nth_index_split [] n h = absurd (omega arith)
  nth_index_split (x ∷ xs) n h = go (p x) refl n h (λ k l. nth_index_split xs k l)
    where
      more : (b : Bool) → p x ≡ b → (n : ℕ) → Nth p xs n → Nth p (x ∷ xs) (count_if b n)
      more b e n r =
          record {
            front = x ∷ r.front;
            this = r.this;
            back = r.back;
            split = ap (λ (ys : List A). x ∷ ys) r.split;
            passes = r.passes;
            before = rw e (ap (count_if b) r.before);
            index = rw e (index b);
          }
        where
          index : (b : Bool) → index_if b (count_if b n) (λ k. nth_index p xs k) ≡ suc (length r.front)
          index true = ap suc r.index
          index false = ap suc r.index

      go : (b : Bool) → p x ≡ b → (n : ℕ) → n < count_if b (count p xs) → ((k : ℕ) → k < count p xs → Nth p xs k) → Nth p (x ∷ xs) n
      go true e zero h ih =
          record { front = []; this = x; back = xs; split = refl; passes = e; before = refl; index = rw e }
      go true e (suc n) h ih = more true e n (ih n (omega arith))
      go false e n h ih = more false e n (ih n h)

  -- where too few pass, the index is the length
  pub nth_index_none : (xs : List A) (n : ℕ) → count p xs ≤ n → nth_index p xs n ≡ length xs
  nth_index_none [] n h = refl
  nth_index_none (x ∷ xs) n h = go (p x) n h (λ k l. nth_index_none xs k l)
    where
      go : (b : Bool) (n : ℕ) → count_if b (count p xs) ≤ n → ((k : ℕ) → count p xs ≤ k → nth_index p xs k ≡ length xs)
          → index_if b n (λ k. nth_index p xs k) ≡ suc (length xs)
      go true zero h ih = absurd (omega arith)
      go true (suc n) h ih = ap suc (ih n (omega arith))
      go false n h ih = ap suc (ih n h)

  -- so an index below the length is that of such an element, and the length says that too few pass
  pub nth_index_below : (xs : List A) (n : ℕ) → nth_index p xs n < length xs → n < count p xs
  nth_index_below xs n h = go (le_or_lt (count p xs) n)
    where
      go : (count p xs ≤ n) ⊎ (n < count p xs) → n < count p xs
      go (inl l) = absurd (omega (arith, nth_index_none xs n l))
      go (inr l) = l

  pub nth_index_above : (xs : List A) (n : ℕ) → length xs ≤ nth_index p xs n → count p xs ≤ n
  nth_index_above xs n h = go (le_or_lt (count p xs) n)
    where
      go : (count p xs ≤ n) ⊎ (n < count p xs) → count p xs ≤ n
      go (inl l) = l
      go (inr l) =
          let w = nth_index_split xs n l in
          absurd (omega (arith, w.index, ap length w.split, length-append w.front (w.this ∷ w.back)))

-- ---- empty, or ended by 0

pub is_ended_snoc : (front : List ℤ) (l : ℤ) → is_ended (front ++ (l ∷ [])) ≡ is_zero l
is_ended_snoc [] l = refl
is_ended_snoc (e ∷ []) l = refl
is_ended_snoc (e ∷ f ∷ front) l = is_ended_snoc (f ∷ front) l

pub is_ended_last : (es : List ℤ) → is_ended es ≡ false → (front : List ℤ) × (l : ℤ) × (es ≡ front ++ (l ∷ [])) × (is_zero l ≡ false)
is_ended_last [] h = absurd (never refl h)
is_ended_last (e ∷ []) h = ([], e, refl, h)
is_ended_last (e ∷ f ∷ es) h =
    let (front, l, q, z) = is_ended_last (f ∷ es) h in (e ∷ front, l, ap (λ (xs : List ℤ). e ∷ xs) q, z)

-- ---- the tests, one by one

module _ (g : Given) where
  pub limits_sound : out_of_limits g.vars g.limit ≡ true → (max_vars < g.vars) ⊎ ((g.limit ≡ 0) ⊎ (max_chunk < g.limit))
  limits_sound h = go (or_cases (ltb max_vars g.vars) (eqb g.limit 0 || ltb max_chunk g.limit) h)
    where
      rest : (eqb g.limit 0 ≡ true) ⊎ (ltb max_chunk g.limit ≡ true) → (g.limit ≡ 0) ⊎ (max_chunk < g.limit)
      rest (inl e) = inl (eqb-true _ _ e)
      rest (inr e) = inr (ltb-true _ _ e)

      go : (ltb max_vars g.vars ≡ true) ⊎ ((eqb g.limit 0 || ltb max_chunk g.limit) ≡ true)
          → (max_vars < g.vars) ⊎ ((g.limit ≡ 0) ⊎ (max_chunk < g.limit))
      go (inl e) = inl (ltb-true _ _ e)
      go (inr e) = inr (rest (or_cases (eqb g.limit 0) (ltb max_chunk g.limit) e))

  pub limits_complete : (max_vars < g.vars) ⊎ ((g.limit ≡ 0) ⊎ (max_chunk < g.limit)) → out_of_limits g.vars g.limit ≡ true
  limits_complete (inl h) = rw (lt-ltb max_vars g.vars h)
  limits_complete (inr (inl h)) = rw (eq-eqb g.limit 0 h) (or-true (ltb max_vars g.vars))
  limits_complete (inr (inr h)) =
      rw (lt-ltb max_chunk g.limit h, or-true (eqb g.limit 0)) (or-true (ltb max_vars g.vars))

  pub limits_false : out_of_limits g.vars g.limit ≡ false → InLimits g
  limits_false h =
      let some = eqb g.limit 0 in
      let over = ltb max_chunk g.limit in
      let rest = or_right (ltb max_vars g.vars) (some || over) h in
      let n : g.limit ≢ 0 = eqb-false _ _ (or_left some over rest) in
      record {
        vars_fit = ltb-false _ _ (or_left (ltb max_vars g.vars) (some || over) h);
        limit_some = omega arith;
        limit_fits = ltb-false _ _ (or_right some over rest);
      }

  pub limits_of_lem : InLimits g → out_of_limits g.vars g.limit ≡ false
  limits_of_lem w =
      rw (le-ltb max_vars g.vars w.vars_fit, ne_eqb g.limit 0 (omega (arith, w.limit_some)), le-ltb max_chunk g.limit w.limit_fits)

  -- the tests of the buffers, one by one
  few_statuses : Bool
  few_statuses = ltb (length g.status) g.vars

  few_calls : Bool
  few_calls = ltb (length g.calls) g.vars

  few_ways : Bool
  few_ways = ltb (length g.ways) g.vars

  few_hints : Bool
  few_hints = ltb (length g.hints) g.vars

  few_rows : Bool
  few_rows = ltb (length g.log) (log_length g.vars)

  pub room_sound : is_short g ≡ true → TooShort g
  unfolding few_statuses few_calls few_ways few_hints few_rows
  room_sound h = go (or_cases few_statuses (few_calls || (few_ways || (few_hints || few_rows))) h)
    where
      hints_on : (few_hints ≡ true) ⊎ (few_rows ≡ true) → TooShort g
      hints_on (inl e) = short_hints (ltb-true _ _ e)
      hints_on (inr e) = short_log (ltb-true _ _ e)

      ways_on : (few_ways ≡ true) ⊎ ((few_hints || few_rows) ≡ true) → TooShort g
      ways_on (inl e) = short_ways (ltb-true _ _ e)
      ways_on (inr e) = hints_on (or_cases few_hints few_rows e)

      calls_on : (few_calls ≡ true) ⊎ ((few_ways || (few_hints || few_rows)) ≡ true) → TooShort g
      calls_on (inl e) = short_calls (ltb-true _ _ e)
      calls_on (inr e) = ways_on (or_cases few_ways (few_hints || few_rows) e)

      go : (few_statuses ≡ true) ⊎ ((few_calls || (few_ways || (few_hints || few_rows))) ≡ true) → TooShort g
      go (inl e) = short_status (ltb-true _ _ e)
      go (inr e) = calls_on (or_cases few_calls (few_ways || (few_hints || few_rows)) e)

  pub room_complete : TooShort g → is_short g ≡ true
  unfolding few_statuses few_calls few_ways few_hints
  room_complete (short_status h) = rw (lt-ltb (length g.status) g.vars h)
  room_complete (short_calls h) = rw (lt-ltb (length g.calls) g.vars h) (or-true few_statuses)
  room_complete (short_ways h) = rw (lt-ltb (length g.ways) g.vars h, or-true few_calls) (or-true few_statuses)
  room_complete (short_hints h) =
      rw (lt-ltb (length g.hints) g.vars h, or-true few_ways, or-true few_calls) (or-true few_statuses)
  room_complete (short_log h) =
      rw (lt-ltb (length g.log) (log_length g.vars) h, or-true few_hints, or-true few_ways, or-true few_calls) (or-true few_statuses)

  pub room_false : InLimits g → is_short g ≡ false → Lent g
  unfolding few_statuses few_calls few_ways few_hints few_rows
  room_false w h =
      let behind-status = or_right few_statuses (few_calls || (few_ways || (few_hints || few_rows))) h in
      let behind-calls = or_right few_calls (few_ways || (few_hints || few_rows)) behind-status in
      let behind-ways = or_right few_ways (few_hints || few_rows) behind-calls in
      record {
        in_limits = w;
        status_fits = ltb-false _ _ (or_left few_statuses (few_calls || (few_ways || (few_hints || few_rows))) h);
        calls_fit = ltb-false _ _ (or_left few_calls (few_ways || (few_hints || few_rows)) behind-status);
        ways_fit = ltb-false _ _ (or_left few_ways (few_hints || few_rows) behind-calls);
        hints_fit = ltb-false _ _ (or_left few_hints few_rows behind-ways);
        log_fits = ltb-false _ _ (or_right few_hints few_rows behind-ways);
      }

  pub room_of : Lent g → is_short g ≡ false
  room_of w =
      rw (
        le-ltb (length g.status) g.vars w.status_fits,
        le-ltb (length g.calls) g.vars w.calls_fit,
        le-ltb (length g.ways) g.vars w.ways_fit,
        le-ltb (length g.hints) g.vars w.hints_fit,
        le-ltb (length g.log) (log_length g.vars) w.log_fits,
      )

  pub list_false : Lent g → ltb max_entries (length g.entries) ≡ false
      → is_ended g.entries ≡ true → ltb max_clauses (count is_zero g.entries) ≡ false → Listed g
  list_false w a b c = record { lent = w; entries_fit = ltb-false _ _ a; ended = b; clauses_fit = ltb-false _ _ c }

  pub refusal_lent : Lent g → refusal_of g ≡ first_of (list_rules g.entries g.vars ++ held_rules g.held g.vars)
  unfolding refusal_of
  refusal_lent w = rw (limits_of_lem w.in_limits, room_of w)

-- a run of a list for which nothing else is wrong has room
pub lent_alone : (es : List ℤ) (vars : ℕ) → vars ≤ max_vars → Lent (list_alone es vars)
lent_alone es vars h =
    record {
      in_limits = record { vars_fit = h; limit_some = omega arith; limit_fits = omega arith };
      status_fits = omega (arith, length-replicate {A = ℕ} vars 0);
      calls_fit = omega (arith, length-replicate {A = ℕ} vars 0);
      ways_fit = omega (arith, length-replicate {A = ℕ} vars 0);
      hints_fit = omega (arith, length-replicate {A = ℕ} vars 0);
      log_fits = omega (arith, length-replicate {A = ℕ} (log_length vars) 0);
    }

-- ---- the list's rules: the first that refuses it

module _ (es : List ℤ) (vars : ℕ) where
  pub list_long_first : max_entries < length es → first_of (list_rules es vars) ≡ some (Refusal.BadList max_entries)
  list_long_first h = rw (lt-ltb max_entries (length es) h)

  module _ (short : length es ≤ max_entries) where
    pub not_ended_first : is_ended es ≡ false → first_of (list_rules es vars) ≡ some (Refusal.BadList (length es))
    not_ended_first e = rw (le-ltb max_entries (length es) short, e)

    module _ (ended : is_ended es ≡ true) where
      pub zero_over_first : max_clauses < count is_zero es
          → first_of (list_rules es vars) ≡ some (Refusal.BadList (nth_index is_zero es max_clauses))
      zero_over_first h = rw (le-ltb max_entries (length es) short, ended, lt-ltb max_clauses (count is_zero es) h)

      module _ (few : count is_zero es ≤ max_clauses) where
        pub above_first : any (is_above vars) es ≡ true
            → first_of (list_rules es vars) ≡ some (Refusal.EntryOverVars (nth_index (is_above vars) es 0))
        above_first e = rw (le-ltb max_entries (length es) short, ended, le-ltb max_clauses (count is_zero es) few, e)

        pub list_first : any (is_above vars) es ≡ false → first_of (list_rules es vars) ≡ none
        list_first e = rw (le-ltb max_entries (length es) short, ended, le-ltb max_clauses (count is_zero es) few, e)

-- ---- the first of two lists of rules

module _ {A : Type 0} where
  pub first_front : (cs ds : List (Check A)) {a : A} → first_of cs ≡ some a → first_of (cs ++ ds) ≡ some a
  first_front [] ds h = apart cc
  first_front (c ∷ cs) ds {a} h = go c.passes h (λ e. first_front cs ds e)
    where
      go : (b : Bool) → or_next b c.answer (first_of cs) ≡ some a → (first_of cs ≡ some a → first_of (cs ++ ds) ≡ some a)
          → or_next b c.answer (first_of (cs ++ ds)) ≡ some a
      go true h ih = h
      go false h ih = ih h

  pub first_back : (cs ds : List (Check A)) → first_of cs ≡ none → first_of (cs ++ ds) ≡ first_of ds
  first_back [] ds h = refl
  first_back (c ∷ cs) ds h = go c.passes h (λ e. first_back cs ds e)
    where
      go : (b : Bool) → or_next b c.answer (first_of cs) ≡ none → (first_of cs ≡ none → first_of (cs ++ ds) ≡ first_of ds)
          → or_next b c.answer (first_of (cs ++ ds)) ≡ first_of ds
      go true h ih = apart cc
      go false h ih = ih h

-- ---- the held literals' rules

module _ (vars : ℕ) (l : ℤ) where
  pub no_literal_sound : is_no_literal vars l ≡ true → (var_of l ≡ 0) ⊎ (vars < var_of l)
  no_literal_sound h = go (or_cases (eqb (var_of l) 0) (ltb vars (var_of l)) h)
    where
      go : (eqb (var_of l) 0 ≡ true) ⊎ (ltb vars (var_of l) ≡ true) → (var_of l ≡ 0) ⊎ (vars < var_of l)
      go (inl e) = inl (eqb-true _ _ e)
      go (inr e) = inr (ltb-true _ _ e)

  pub no_literal_complete : (var_of l ≡ 0) ⊎ (vars < var_of l) → is_no_literal vars l ≡ true
  no_literal_complete (inl h) = rw (eq-eqb (var_of l) 0 h)
  no_literal_complete (inr h) = rw (lt-ltb vars (var_of l) h) (or-true (eqb (var_of l) 0))

  pub no_literal_false : is_no_literal vars l ≡ false → LitUpTo vars l
  no_literal_false h =
      let none = eqb (var_of l) 0 in
      let over = ltb vars (var_of l) in
      let n : var_of l ≢ 0 = eqb-false _ _ (or_left none over h) in
      record { some = omega arith; most = ltb-false _ _ (or_right none over h) }

  pub no_literal_of : LitUpTo vars l → is_no_literal vars l ≡ false
  no_literal_of w = rw (ne_eqb (var_of l) 0 (omega (arith, w.some)), le-ltb vars (var_of l) w.most)

module _ (held : List ℤ) (vars : ℕ) where
  pub many_held_first : max_held < length held → first_of (held_rules held vars) ≡ some Refusal.ManyHeld
  many_held_first h = rw (lt-ltb max_held (length held) h)

  module _ (few : length held ≤ max_held) where
    pub bad_held_first : any (is_no_literal vars) held ≡ true
        → first_of (held_rules held vars) ≡ some (Refusal.BadLiteral (nth_index (is_no_literal vars) held 0))
    bad_held_first e = rw (le-ltb max_held (length held) few, e)

    pub held_first : any (is_no_literal vars) held ≡ false → first_of (held_rules held vars) ≡ none
    held_first e = rw (le-ltb max_held (length held) few, e)
