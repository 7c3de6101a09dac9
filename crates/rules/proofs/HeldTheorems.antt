-- What a run with held literals says: of two runs on one formula where the second holds more, of a free variable that is then held, and of
-- both signs of a variable held.
--
--   held_models       a model of the formula with the held literals is one of the formula that has them all, and back
--   held_fewer        a model with a longer list held is one with the shorter list held
--   held_more         what is forced stays forced if more is held, unless that leaves no model
--   held_free         either literal of a free variable may be held: there is a model then
--   held_signs        both signs of a variable held: no model, with no try, whatever the budget
--   held_none         with an empty list the task is as before
--
-- Assumes nothing.
use mathlib.Core.Path.{◌≡◌, refl, sym, ◌∙◌, ap}
use mathlib.Core.Logic.{◌≢◌, ◌⊎◌, inl, inr, ◌↔◌}
use mathlib.Core.Bool.{true}
use mathlib.Core.List.Memᴰ
use mathlib.Core.List.{List, [], ◌∷◌, ◌++◌}
use Prim.Native.Nat.{ℕ, ◌≤◌}
use lib.IntN.{ℤ, pos, negsuc}
use borrow.Author.Tests.{eq-eqb}
use Rattle.rules.specs.declared.RunAnswer.{RunAnswer}
use Rattle.rules.specs.Lists.{In}
use Rattle.rules.specs.Meaning.{Clause, Values, var_of, negated, value_at, index_of, true_byte, is_true, LitUpTo, Model}
use Rattle.rules.specs.Models.{Forced, Free}
use Rattle.rules.specs.Search.{Call}
use Rattle.rules.specs.Run.{Task, status_at, is_forced_to, blank, on_first, first_call, run}
use Rattle.rules.specs.Trace.{with_limits}
use Rattle.rules.specs.Held.{with_held, holding, HeldModel}
use Rattle.rules.proofs.ListLaws.{apart}
use Rattle.rules.proofs.HeldLaws.{held_sound, held_complete, with_held_nil, with_held-append, call_on_signs}
use Rattle.rules.proofs.RunTheorems.{run_answer_lem, run_forced, run_free, settled_forced, settled_model, no_model_exactly, free_of_run, index_of_lt}

-- ---- models

pub held_models : (n : ℕ) (F : List Clause) (held : List ℤ) (m : Values) → Model n (with_held F held) m ↔ HeldModel n F held m
held_models n F held m = (held_sound, held_complete)

pub held_fewer : {n : ℕ} (F : List Clause) (held more : List ℤ) {m : Values} → Model n (with_held F (held ++ more)) m → Model n (with_held F held) m
held_fewer F held more x = (held_sound {F = with_held F held} {held = more} (rw (with_held-append F held more) at x)).is-model

-- what all models contain they contain if more is held too, if there is one
forced_more : {n : ℕ} (F : List Clause) (held more : List ℤ) {m : Values} {l : ℤ} → Model n (with_held F (held ++ more)) m
    → Forced n (with_held F held) l → Forced n (with_held F (held ++ more)) l
forced_more F held more {m} x f = record { some_model = m; is-model = x; in_all = λ d y. f.in_all d (held_fewer F held more y) }

-- ---- two runs on one formula

module _ (k : Task) (held more : List ℤ) (budget limit : ℕ) (h : 1 ≤ k.limit) (g : 1 ≤ limit) where
  -- the second run: more is held, and its limits are its own
  abbrev longer : Task
  longer = with_limits (holding k (held ++ more)) budget limit

  pub held_more : (run longer).answer ≢ RunAnswer.Stopped → (run longer).answer ≢ RunAnswer.NoModel → (l : ℤ) → LitUpTo k.vars l
      → is_forced_to (run (holding k held)).progress.statuses l → is_forced_to (run longer).progress.statuses l
  held_more s n l u f = go (run_answer_lem longer g)
    where
      go : ((run longer).answer ≡ RunAnswer.Settled) ⊎ (((run longer).answer ≡ RunAnswer.NoModel) ⊎ ((run longer).answer ≡ RunAnswer.Stopped))
          → is_forced_to (run longer).progress.statuses l
      go (inl a) = (settled_forced longer g a l u).1 (forced_more k.formula held more (settled_model longer g a).1 (run_forced (holding k held) h l u f))
      go (inr (inl a)) = absurd (n a)
      go (inr (inr a)) = absurd (s a)

-- ---- a free variable

-- a value that models differ on is in one of them
either : (i : ℕ) (b : ℕ) {n : ℕ} {F : List Clause} → (b ≡ 1) ⊎ (b ≡ 2) → Free n F i → (m : Values) × Model n F m × (value_at m i ≡ b)
either i b {n} {F} v d = go (d.one_is.total.valued i) (d.two_is.total.valued i) v
  where
    go : (value_at d.one i ≡ 1) ⊎ (value_at d.one i ≡ 2) → (value_at d.two i ≡ 1) ⊎ (value_at d.two i ≡ 2) → (b ≡ 1) ⊎ (b ≡ 2)
        → (m : Values) × Model n F m × (value_at m i ≡ b)
    go (inl p) (inl q) v = absurd (d.differ (p ∙ sym q))
    go (inr p) (inr q) v = absurd (d.differ (p ∙ sym q))
    go (inl p) (inr q) (inl e) = (d.one, d.one_is, p ∙ sym e)
    go (inl p) (inr q) (inr e) = (d.two, d.two_is, q ∙ sym e)
    go (inr p) (inl q) (inl e) = (d.two, d.two_is, q ∙ sym e)
    go (inr p) (inl q) (inr e) = (d.one, d.one_is, p ∙ sym e)

true_byte_cases : (l : ℤ) → (true_byte l ≡ 1) ⊎ (true_byte l ≡ 2)
true_byte_cases (pos n) = inr refl
true_byte_cases (negsuc n) = inl refl

-- a model that has the literal is one with the literal held too
held_one : {n : ℕ} (F : List Clause) (held : List ℤ) (l : ℤ) {m : Values} → Model n (with_held F held) m → is_true m l ≡ true
    → Model n (with_held F (held ++ (l ∷ []))) m
held_one F held l {m} x t = rw (with_held-append F held (l ∷ [])) (held_complete (record { is-model = x; all_held = only }))
  where
    only : (k : ℤ) → In k (l ∷ []) → is_true m k ≡ true
    only k i = rw (Memᴰ.eq_of_singleton i) t

module _ (k : Task) (held : List ℤ) (budget limit : ℕ) (h : 1 ≤ k.limit) (g : 1 ≤ limit) where
  abbrev ticked : ℤ → Task
  ticked l = with_limits (holding k (held ++ (l ∷ []))) budget limit

  pub held_free : (l : ℤ) → LitUpTo k.vars l → status_at (run (holding k held)).progress.statuses (index_of l) ≡ 1
      → (run (ticked l)).answer ≢ RunAnswer.NoModel
  held_free l u e a =
      let d = free_of_run (run_free (holding k held) h (index_of l) (index_of_lt l u) e) in
      let (m, x, v) = either (index_of l) (true_byte l) (true_byte_cases l) d in
      ((no_model_exactly (ticked l) g (λ s. apart cc)).0 a).none m (held_one k.formula held l x (eq-eqb (value_at m (index_of l)) (true_byte l) v))

-- ---- both signs of a variable

pub held_signs : (k : Task) (held : List ℤ) (l : ℤ) → 1 ≤ var_of l → In l held → In (negated l) held
    → ((run (holding k held)).answer ≡ RunAnswer.NoModel) × ((run (holding k held)).progress.tries ≡ 0)
unfolding run first_call
held_signs k held l some this other =
    let e = call_on_signs k.formula held some this other k.budget (blank k.vars) 0 in
    (ap (λ (c : Call). (on_first c (holding k held)).answer) e, ap (λ (c : Call). (on_first c (holding k held)).progress.tries) e)

-- ---- no held literal

pub held_none : (k : Task) → holding k [] ≡ k
held_none k =
    ap (λ (F : List Clause). record { vars = k.vars; budget = k.budget; limit = k.limit; formula = F }) (with_held_nil k.formula)
