-- What a hint says (docs/RULES.md, "Which clause holds a switch").
--
--   hint_zero, hint_some      in the first model: 0 exactly if the variable can be flipped, n exactly if clause n is the first that the flip
--                             makes false
--   forced_held               a literal that a run marks forced is the only true one of the clause that its hint names, in the first model
--   first_model               what the first call finds is a model
--   unhinted                  without a first model each hint is 0
--
-- Assumes nothing.
use mathlib.Core.Path.{◌≡◌, refl, sym, ◌∙◌, ap}
use mathlib.Core.Logic.{◌⊎◌, inl, inr, ◌↔◌}
use mathlib.Core.Bool.{Bool, true, false, not}
use mathlib.Core.List.{List, [], ◌∷◌}
use mathlib.Core.Option.{Option, none, some}
use Prim.Native.Nat.{ℕ, zero, suc, pred, ◌+◌, ◌≤◌, ◌<◌}
use native.Mathlib.Omega.{arith}
use lib.IntN.{ℤ, pos, negsuc}
use lib.ListN.{length, get_or, replicate, length-replicate}
use lib.Seq.{get_or-set_same}
use borrow.Author.Tests.{eqb-true, eq-eqb}
use Rattle.rules.specs.Lists.{In, or_next}
use Rattle.rules.specs.Meaning.{Clause, Values, LitUpTo, var_of, index_of, value_at, true_byte, is_true, has_true, satisfies}
use Rattle.rules.specs.Meaning.{clauses, first_false_from, first_false, Model}
use Rattle.rules.specs.Models.{Forced}
use Rattle.rules.specs.Search.{Call, model, no_model, stopped}
use Rattle.rules.specs.Run.{Task, status_at, is_forced_to, forced_by, other_byte, flipped, blank, first_call, run}
use Rattle.rules.specs.Hints.{flip_by, flip_test, may_flip, hint_number, hint_at, hints_in, hints_of, HeldBy, FirstFalse}
use Rattle.rules.proofs.ListLaws.{apart, never, not-true, any_sound, none_of_any, all_sound, in_get_d, get_d_tabled}
use Rattle.rules.proofs.ClauseLaws.{clauses_entries}
use Rattle.rules.proofs.MeaningLaws.{set_cases, blank_proper}
use Rattle.rules.proofs.SearchLaws.{call_on_model}
use Rattle.rules.proofs.KnownLaws.{other_byte_valued, flipped_model}
use Rattle.rules.proofs.RunTheorems.{forced_by_le, index_of_lt, blank_open, run_forced}
use Rattle.rules.proofs.HintLaws.{can_flip-may_flip}

-- ---- the first false clause

-- the clause at index i is false, and none before it
record FalseAt (F : List Clause) (vs : Values) (i : ℕ) : Type 0 where
  within : i < length F
  false_here : has_true vs (get_or F i []) ≡ false
  none_before : (j : ℕ) → j < i → has_true vs (get_or F j []) ≡ true

false_later : {cl : Clause} {F : List Clause} {vs : Values} {i : ℕ} → has_true vs cl ≡ true → FalseAt F vs i → FalseAt (cl ∷ F) vs (suc i)
false_later {cl} {F} {vs} {i} h w = record { within = omega (arith, w.within); false_here = w.false_here; none_before = before }
  where
    before : (j : ℕ) → j < suc i → has_true vs (get_or (cl ∷ F) j []) ≡ true
    before zero l = h
    before (suc j) l = w.none_before j (omega arith)

first_at_lem : (n : ℕ) (vs : Values) (F : List Clause) (k : ℕ) → first_false_from n vs F ≡ some k → (i : ℕ) × (k ≡ n + i) × FalseAt F vs i
first_at_lem n vs [] k e = apart cc
first_at_lem n vs (cl ∷ F) k e = go (has_true vs cl) refl e (λ f. first_at_lem (suc n) vs F k f)
  where
    go : (b : Bool) → has_true vs cl ≡ b → or_next (not b) n (first_false_from (suc n) vs F) ≡ some k
        → (first_false_from (suc n) vs F ≡ some k → (i : ℕ) × (k ≡ suc n + i) × FalseAt F vs i) → (i : ℕ) × (k ≡ n + i) × FalseAt (cl ∷ F) vs i
    go true h f ih =
        let (i, q, w) = ih f in
        (suc i, omega arith, false_later h w)
    go false h f ih =
        let s : n ≡ k = cc in
        (0, omega arith, record { within = omega arith; false_here = h; none_before = λ j l. absurd (omega arith) })

first_false_sound : (vs : Values) (F : List Clause) (n : ℕ) → first_false vs F ≡ some n → FirstFalse F vs n
first_false_sound vs F n e =
    let (i, q, w) = first_at_lem 1 vs F n e in
    let p : pred n ≡ i = omega arith in
    record {
      some = omega arith;
      most = omega (arith, w.within);
      false_here = rw p w.false_here;
      none_before = λ j l h. w.none_before (pred j) (omega arith);
    }

-- ---- a literal and its variable

same_literal : (j l : ℤ) → 1 ≤ var_of j → 1 ≤ var_of l → index_of j ≡ index_of l → true_byte j ≡ true_byte l → j ≡ l
same_literal (pos zero) l h g i t = absurd (omega arith)
same_literal (pos (suc a)) (pos zero) h g i t = absurd (omega arith)
same_literal (pos (suc a)) (pos (suc b)) h g i t = ap (λ (n : ℕ). pos (suc n)) i
same_literal (pos (suc a)) (negsuc b) h g i t = absurd (omega arith)
same_literal (negsuc a) (pos zero) h g i t = absurd (omega arith)
same_literal (negsuc a) (pos (suc b)) h g i t = absurd (omega arith)
same_literal (negsuc a) (negsuc b) h g i t = ap negsuc i

-- a literal that is true, and no longer after the variable at index i alone was flipped, is of that variable
flipped_away : (m : Values) (i : ℕ) (j : ℤ) → is_true m j ≡ true → is_true (flipped m i) j ≡ false → index_of j ≡ i
flipped_away m i j t f = go (set_cases m i (other_byte (value_at m i)) (index_of j))
  where
    go : ((index_of j ≡ i) × (value_at (flipped m i) (index_of j) ≡ other_byte (value_at m i))) ⊎
        (value_at (flipped m i) (index_of j) ≡ value_at m (index_of j))
        → index_of j ≡ i
    go (inl h) = h.0
    go (inr h) = absurd (never (eq-eqb _ _ (h ∙ eqb-true _ _ t)) f)

-- ---- the hints of a first model

pub first_model : (k : Task) (m : Values) (t : ℕ) → first_call k ≡ model m t → Model k.vars k.formula m
unfolding first_call
first_model k m t e =
    let w = call_on_model k.budget k.formula (blank k.vars) 0 m t (blank_proper k.vars) e in
    record { len = w.len ∙ length-replicate {A = ℕ} k.vars 0; total = w.total; all_true = w.all_true }

module _ (k : Task) (m : Values) (t-first : ℕ) (e : first_call k ≡ model m t-first) (i : ℕ) (h : i < k.vars) where
  hint_is : get_or (hints_of k) i 0 ≡ hint_number (flip_test k.formula m i)
  unfolding hints_of
  hint_is =
      ap (λ (c : Call). get_or (hints_in c k) i 0) e ∙ get_d_tabled (hint_at k.formula m) 0 k.vars i h ∙
      ap (hint_at k.formula m) (omega arith)

  judged : (o : Option ℕ) → first_false (flipped m i) k.formula ≡ o → get_or (hints_of k) i 0 ≡ hint_number (flip_by o)
  judged o q = hint_is ∙ ap (λ (r : Option ℕ). hint_number (flip_by r)) q

  -- 0 exactly if the flip leaves all clauses true
  pub hint_zero : (get_or (hints_of k) i 0 ≡ 0) ↔ (satisfies (flipped m i) k.formula ≡ true)
  hint_zero = (λ z. go (first_false (flipped m i) k.formula) refl z, λ s. none_made s)
    where
      may : (o : Option ℕ) → first_false (flipped m i) k.formula ≡ o → may_flip (flip_by o) ≡ satisfies (flipped m i) k.formula
      may o q = ap (λ (r : Option ℕ). may_flip (flip_by r)) (sym q) ∙ can_flip-may_flip k.formula m i

      go : (o : Option ℕ) → first_false (flipped m i) k.formula ≡ o → get_or (hints_of k) i 0 ≡ 0 → satisfies (flipped m i) k.formula ≡ true
      go none q z = sym (may none q)
      go (some n) q z =
          let w = first_false_sound (flipped m i) k.formula n q in
          absurd (omega (arith, w.some, judged (some n) q))

      none_made : satisfies (flipped m i) k.formula ≡ true → get_or (hints_of k) i 0 ≡ 0
      none_made s = back (first_false (flipped m i) k.formula) refl
        where
          back : (o : Option ℕ) → first_false (flipped m i) k.formula ≡ o → get_or (hints_of k) i 0 ≡ 0
          back none q = judged none q
          back (some n) q = absurd (never s (sym (may (some n) q)))

  -- n exactly if clause n is the first that the flip makes false
  pub hint_some : (n : ℕ) → 1 ≤ n → get_or (hints_of k) i 0 ≡ n → FirstFalse k.formula (flipped m i) n
  hint_some n l z = go (first_false (flipped m i) k.formula) refl
    where
      go : (o : Option ℕ) → first_false (flipped m i) k.formula ≡ o → FirstFalse k.formula (flipped m i) n
      go none q = absurd (omega (arith, judged none q))
      go (some a) q =
          let s : a ≡ n = sym (judged (some a) q) ∙ z in
          rw s at (first_false_sound (flipped m i) k.formula a q)

  -- a literal that is true in the first model, and whose flip makes a clause false, is the only true one of the clause that its hint names
  held : ((cl : Clause) → In cl k.formula → (j : ℤ) → In j cl → 1 ≤ var_of j) → satisfies (flipped m i) k.formula ≡ false
      → (l : ℤ) → 1 ≤ var_of l → index_of l ≡ i → is_true m l ≡ true → HeldBy k.formula m l (get_or (hints_of k) i 0)
  held no_zero f l s x t = go (get_or (hints_of k) i 0) refl
    where
      go : (n : ℕ) → get_or (hints_of k) i 0 ≡ n → HeldBy k.formula m l n
      go zero z = absurd (never (hint_zero.0 z) f)
      go (suc n) z =
          let w = hint_some (suc n) (omega arith) z in
          let cl = get_or k.formula n [] in
          let in_formula : In cl k.formula = in_get_d k.formula n [] (omega (arith, w.most)) in
          let (y, in_clause, true_here) = any_sound (is_true m) cl (all_sound (has_true m) (first_model k m t-first e).all_true in_formula) in
          record {
            some = omega arith;
            most = w.most;
            only =
                record {
                  in_clause = rw (← same w y in_clause true_here (no_zero cl in_formula y in_clause)) in_clause;
                  true_here = t;
                  no_other = λ j h q. same w j h q (no_zero cl in_formula j h);
                };
          }
        where
          same : FirstFalse k.formula (flipped m i) (suc n) → (j : ℤ) → In j (get_or k.formula n []) → is_true m j ≡ true → 1 ≤ var_of j → j ≡ l
          same w j h q r =
              let at : index_of j ≡ i = flipped_away m i j q (none_of_any (is_true (flipped m i)) w.false_here h) in
              same_literal j l r s (at ∙ sym x)
              (sym (eqb-true _ _ q) ∙ ap (value_at m) (at ∙ sym x) ∙ eqb-true _ _ t)

-- ---- a run

module _ (k : Task) (limit : 1 ≤ k.limit) (es : List ℤ) (listed : k.formula ≡ clauses es) where
  -- no clause of an entry list holds a 0
  no_zero : (cl : Clause) → In cl k.formula → (j : ℤ) → In j cl → 1 ≤ var_of j
  no_zero cl h j i = ((clauses_entries es cl (rw listed at h)).each j i).1

  -- a literal that a run marks forced, in a stopped run too: there is a first model, and in it the literal is the only true one of the
  -- clause that its hint names
  pub forced_held : (l : ℤ) → LitUpTo k.vars l → is_forced_to (run k).progress.statuses l
      → (m : Values) × (t : ℕ) × (first_call k ≡ model m t) × HeldBy k.formula m l (get_or (hints_of k) (index_of l) 0)
  unfolding run
  forced_held l h f = go (first_call k) refl
    where
      w : Forced k.vars k.formula l
      w = run_forced k limit l h f

      -- where no variable is marked
      unmarked : status_at (replicate k.vars 0) (index_of l) ≡ forced_by (true_byte l) → ⊥
      unmarked q = omega (arith, blank_open k.vars (index_of l) (index_of_lt l h), forced_by_le l)

      no_flip : (m : Values) → Model k.vars k.formula m → satisfies (flipped m (index_of l)) k.formula ≡ false
      no_flip m x =
          not-true (satisfies (flipped m (index_of l)) k.formula)
          (λ s.
          let at = get_or-set_same m (index_of l) (other_byte (value_at m (index_of l))) 1 (rw x.len (index_of_lt l h)) in
          let now = eqb-true _ _ (w.in_all (flipped m (index_of l)) (flipped_model k.vars k.formula m (index_of l) x s)) in
          (other_byte_valued (value_at m (index_of l)) (x.total.valued (index_of l))).1 (sym at ∙ now ∙ sym (eqb-true _ _ (w.in_all m x))))

      go : (c : Call) → first_call k ≡ c
          → (m : Values) × (t : ℕ) × (first_call k ≡ model m t) × HeldBy k.formula m l (get_or (hints_of k) (index_of l) 0)
      go (model m t) e =
          let x = first_model k m t e in
          (m, t, e, held k m t e (index_of l) (index_of_lt l h) no_zero (no_flip m x) l h.some refl (w.in_all m x))
      go (no_model t) e = absurd (unmarked (rw e at f))
      go (stopped t) e = absurd (unmarked (rw e at f))

-- without a first model each hint is 0
pub unhinted : (k : Task) → ((m : Values) (t : ℕ) → first_call k ≡ model m t → ⊥) → hints_of k ≡ replicate k.vars 0
unfolding hints_of
unhinted k ne = go (first_call k) refl
  where
    go : (c : Call) → first_call k ≡ c → hints_in (first_call k) k ≡ replicate k.vars 0
    go (model m t) e = absurd (ne m t e)
    go (no_model t) e = rw e
    go (stopped t) e = rw e
