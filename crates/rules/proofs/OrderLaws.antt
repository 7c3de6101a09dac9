-- The laws of specs/Order: the same rules in another order give the same call, the same flips and so, chunk by chunk, the same run. Closing and
-- the call are those of ClosingOrder and SearchOrder; what remains is that nothing else of a run looks at the order. The constraint is the
-- same in both.
--
--   same_rules_behind     the same rules with the same clauses behind them; same_rules_held: with the same literals held
--   first_call_order, chunk_call_order     the calls of a run
--   can_flip_order     a flip, free or not; flips_order: all of them
--   after_model_order  what a call with a model leaves: compare, flip, the records and the row
--   chunks_in_order    the calls after the first, chunk by chunk
--   run_order         the run
--
-- Assumes nothing.
use mathlib.Core.Path.{◌≡◌, refl, ◌∙◌, ap, ap₂}
use mathlib.Core.Logic.{◌↔◌}
use mathlib.Core.Bool.{Bool}
use mathlib.Core.List.{List, [], ◌∷◌, ◌++◌, map}
use Prim.Native.Nat.{ℕ, zero, suc, ◌+◌, min}
use lib.IntN.{ℤ}
use Rattle.rules.specs.Lists.{In}
use Rattle.rules.specs.Meaning.{Clause, Values}
use Rattle.rules.specs.Models.{Covers}
use Rattle.rules.specs.Search.{Call, model, no_model, stopped}
use Rattle.rules.specs.Run.{Task, Progress, opens, freed_if, freed_from, flipped, can_flip, flips, compared, blank, forced_values, chunk_of, constraint}
use Rattle.rules.specs.Run.{chunk_call, filtered, after_model, after_none, Ended, on_call, on_open, chunks_in, chunks, begun, on_first, first_call, run}
use Rattle.rules.specs.Held.{unit_clause, with_held}
use Rattle.rules.specs.Order.{SameRules, SameHeld, with_rules}
use Rattle.rules.proofs.ListLaws.{in_map, map_in}
use Rattle.rules.proofs.MeaningLaws.{satisfies_same, covers_refl, covers_append, blank_proper}
use Rattle.rules.proofs.SearchOrder.{call_on_order}
use Rattle.rules.proofs.KnownLaws.{proper_forced_values}

-- ---- the same rules

covers_units : (held other : List ℤ) → ((l : ℤ) → In l held → In l other) → Covers (map unit_clause held) (map unit_clause other)
covers_units held other h = record { like = λ cl i. let (l, j, e) = map_in unit_clause held i in go cl l (h l j) e }
  where
    go : (cl : Clause) (l : ℤ) → In l other → cl ≡ unit_clause l
        → (d : Clause) × In d (map unit_clause other) × ((k : ℤ) → In k cl ↔ In k d)
    go cl l j e = (unit_clause l, in_map unit_clause j, λ k. rw e (λ x. x, λ x. x))

pub same_rules_behind : {F G : List Clause} (C : List Clause) → SameRules F G → SameRules (F ++ C) (G ++ C)
same_rules_behind C s = record { there = covers_append s.there (covers_refl C); back = covers_append s.back (covers_refl C) }

pub same_rules_held : {F G : List Clause} {held other : List ℤ} → SameRules F G → SameHeld held other
    → SameRules (with_held F held) (with_held G other)
same_rules_held {held = held} {other = other} s h =
    record {
      there = covers_append s.there (covers_units held other (λ l. (h.same l).0));
      back = covers_append s.back (covers_units other held (λ l. (h.same l).1));
    }

-- ---- a flip: whether it leaves all clauses true, and not which clause it makes false

pub can_flip_order : {F G : List Clause} → SameRules F G → (m : Values) (i : ℕ) → can_flip F m i ≡ can_flip G m i
can_flip_order {F} {G} s m i = satisfies_same (flipped m i) F G s.there s.back

freed_from_cong : (i : ℕ) {p q : ℕ → Bool} → ((j : ℕ) → p j ≡ q j) → (ss : List ℕ) → freed_from i p ss ≡ freed_from i q ss
freed_from_cong i e [] = refl
freed_from_cong i e (s ∷ ss) = ap₂ (λ (x : ℕ) (xs : List ℕ). x ∷ xs) (ap (λ (b : Bool). freed_if b s) (e i)) (freed_from_cong (suc i) e ss)

pub flips_order : {F G : List Clause} → SameRules F G → (m : Values) (ss : List ℕ) → flips F m ss ≡ flips G m ss
flips_order s m ss = freed_from_cong 0 (can_flip_order s m) ss

-- ---- the run, chunk by chunk

module _ (k : Task) (G : List Clause) (s : SameRules k.formula G) where
  pub first_call_order : first_call k ≡ first_call (with_rules k G)
  unfolding first_call
  first_call_order = call_on_order k.budget s.there s.back (blank k.vars) 0 (blank_proper k.vars)

  pub chunk_call_order : (p : Progress) (n : ℕ) → chunk_call k p n ≡ chunk_call (with_rules k G) p n
  unfolding chunk_call
  chunk_call_order p n =
      let more = same_rules_behind (constraint (chunk_of p n) ∷ []) s in
      call_on_order k.budget more.there more.back (forced_values p.statuses) p.tries (proper_forced_values p.statuses)

  filtered_order : (p : Progress) (m : Values) → filtered k p m ≡ filtered (with_rules k G) p m
  filtered_order p m = flips_order s m (compared p.first m p.statuses)

  pub after_model_order : (p : Progress) (chunk : ℕ) (m : Values) (t : ℕ) → after_model k p chunk m t ≡ after_model (with_rules k G) p chunk m t
  after_model_order p chunk m t = rw (filtered_order p m)

  -- two ways to go on that agree
  on_call_order : (c : Call) (p : Progress) (size chunk : ℕ) (f g : ℕ → Progress → Ended) → ((n : ℕ) (q : Progress) → f n q ≡ g n q)
      → on_call c k p size chunk f ≡ on_call c (with_rules k G) p size chunk g
  on_call_order (model m t) p size chunk f g same = same 1 (after_model k p chunk m t) ∙ ap (g 1) (after_model_order p chunk m t)
  on_call_order (no_model t) p size chunk f g same = same (min (size + size) k.limit) (after_none p chunk t)
  on_call_order (stopped t) p size chunk f g same = refl

  on_open_order : (n size : ℕ) (p : Progress) (f g : ℕ → Progress → Ended) → ((n : ℕ) (q : Progress) → f n q ≡ g n q)
      → on_open n k size p f ≡ on_open n (with_rules k G) size p g
  on_open_order zero size p f g same = refl
  on_open_order (suc n) size p f g same =
      ap (λ (c : Call). on_call c k p size (min size (suc n)) f) (chunk_call_order p (min size (suc n)))
      ∙ on_call_order (chunk_call (with_rules k G) p (min size (suc n))) p size (min size (suc n)) f g same

  pub chunks_in_order : (n size : ℕ) (p : Progress) → chunks_in n k size p ≡ chunks_in n (with_rules k G) size p
  unfolding chunks_in
  chunks_in_order zero size p = refl
  chunks_in_order (suc n) size p =
      on_open_order (opens p.statuses) size p (λ z q. chunks_in n k z q) (λ z q. chunks_in n (with_rules k G) z q) (chunks_in_order n)

  on_first_order : (c : Call) → on_first c k ≡ on_first c (with_rules k G)
  unfolding chunks
  on_first_order (model m t) =
      let p = after_model k (begun k m) 0 m t in
      chunks_in_order (opens p.statuses) 1 p
      ∙ ap (λ (q : Progress). chunks (with_rules k G) 1 q) (after_model_order (begun k m) 0 m t)
  on_first_order (no_model t) = refl
  on_first_order (stopped t) = refl

  pub run_order : run k ≡ run (with_rules k G)
  unfolding run
  run_order = ap (λ (c : Call). on_first c k) first_call_order ∙ on_first_order (first_call (with_rules k G))
