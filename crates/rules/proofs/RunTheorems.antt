-- What a run says of the formula's models: for every task with a chunk limit of 1 or more, and of forced and free variables for
-- runs stopped by their budget too.
--
--   run_answer_lem            a run is settled, finds no model, or is stopped
--   run_forced            a literal marked forced is in all models, and there is one
--   run_free              a variable marked free has a witness against the run's first model
--   settled_forced, settled_free     and back, in a settled run
--   free_of_run           a witness shows that models differ
--   index_of_lt            the index of a literal up to n
--   settled_model         a settled run has found a model
--   settled_none_open     a settled run leaves no variable open
--   free_alike, forced_alike, settled_alike     formulas with the same models
--   settled_same          budget and chunk limit never change a settled status
--   no_model_exactly      20 is answered exactly if there is no model, unless stopped
--   run_statuses          there is a status for each variable, and it is 0, 1, 2 or 3
--
-- Assumes nothing.
use mathlib.Core.Path.{◌≡◌, refl, sym, ◌∙◌, ap}
use mathlib.Core.Logic.{◌≢◌, ◌⊎◌, inl, inr, ◌↔◌}
use mathlib.Core.List.Memᴰ
use mathlib.Core.List.{List, [], ◌∷◌, ◌++◌}
use Prim.Native.Nat.{ℕ, zero, suc, ◌≤◌, ◌<◌}
use native.Mathlib.Omega.{arith}
use lib.IntN.{ℤ, pos, negsuc}
use lib.ListN.{length, replicate, length-replicate}
use lib.Seq.{ext_get_or}
use borrow.Author.Tests.{eqb-true, eq-eqb}
use Rattle.rules.specs.declared.RunAnswer.{RunAnswer}
use Rattle.rules.specs.Lists.{In}
use Rattle.rules.specs.Meaning.{Clause, Values, value_at, index_of, true_byte, LitUpTo, Model}
use Rattle.rules.specs.Models.{NoModel, Forced, Free, Witness, by_model_lem, by_flip, WitnessOf}
use Rattle.rules.specs.Run.{Task, Progress, status_at, is_forced_to, opens, forced_by, forced_value, flipped, Ended, run}
use Rattle.rules.proofs.ListLaws.{apart}
use Rattle.rules.proofs.MeaningLaws.{blank_extends, blank_proper}
use Rattle.rules.proofs.KnownLaws.{Known, first_model_is}
use Rattle.rules.specs.Trace.{with_limits, Reached, first_model, next_model, next_none, Ends, first_none, first_stopped, settled, next_stopped}
use Rattle.rules.proofs.RunTrace.{known, run_ends, first_none_of}

-- ---- the models of a run: the first one found is the first in its list

pub models_first : {k : Task} {size : ℕ} {p : Progress} → Reached k size p → (rest : List Values) × (p.models ≡ p.first ∷ rest)
models_first (first_model m t e) = ([], refl)
models_first (next_model {p = p} m t r o e) = let (rest, q) = models_first r in (rest ++ (m ∷ []), ap (λ (ms : List Values). ms ++ (m ∷ [])) q)
models_first (next_none t r o e d) = models_first r

-- ---- what a progress says

pub forced_by_le : (l : ℤ) → 2 ≤ forced_by (true_byte l)
forced_by_le (pos n) = omega arith
forced_by_le (negsuc n) = omega arith

forced_value-true_byte : (l : ℤ) → forced_value (forced_by (true_byte l)) ≡ true_byte l
forced_value-true_byte (pos n) = refl
forced_value-true_byte (negsuc n) = refl

known_forced : {k : Task} {first : Values} {models : List Values} {ss : List ℕ}
    → Known k first models ss → (l : ℤ) → is_forced_to ss l → Forced k.vars k.formula l
known_forced {k} {first} {models} {ss} w l e =
    record {
      some_model = first;
      is-model = first_model_is w;
      in_all =
          λ m x. eq-eqb (value_at m (index_of l)) (true_byte l)
          (w.forced (index_of l) (rw e (forced_by_le l)) m x ∙ ap forced_value e ∙ forced_value-true_byte l);
    }

-- a witness shows that models differ
free_of_witness : {n : ℕ} {F : List Clause} {first : Values} {models : List Values} {i : ℕ}
    → Model n F first → ((m : Values) → In m models → Model n F m) → Witness n F first models i → Free n F i
free_of_witness {first = first} x are (by_model_lem m h d) =
    record { one = m; two = first; one_is = are m h; two_is = x; differ = d }
free_of_witness {first = first} {i = i} x are (by_flip m h y d) =
    record { one = flipped m i; two = first; one_is = y; two_is = x; differ = d }

pub free_of_run : {n : ℕ} {F : List Clause} {models : List Values} {i : ℕ} → WitnessOf n F models i → Free n F i
free_of_run w = free_of_witness (w.each w.first (rw w.models_are (Memᴰ.head refl))) w.each w.witness

-- a literal in all models, and models that differ on its variable
forced_not_free : {n : ℕ} {F : List Clause} {l : ℤ} → Forced n F l → Free n F (index_of l) → ⊥
forced_not_free {l = l} f d =
    d.differ (eqb-true _ (true_byte l) (f.in_all d.one d.one_is) ∙ sym (eqb-true _ (true_byte l) (f.in_all d.two d.two_is)))

-- ---- with no candidate left, every variable is free or forced

no_open : (ss : List ℕ) → opens ss ≡ 0 → (i : ℕ) → status_at ss i ≢ 0
no_open [] h i = omega arith
no_open (zero ∷ ss) h i = absurd (omega arith)
no_open (suc s ∷ ss) h zero = omega arith
no_open (suc s ∷ ss) h (suc i) = no_open ss h i

free_or_forced : (s : ℕ) → s ≢ 0 → (s ≡ 1) ⊎ (2 ≤ s)
free_or_forced zero h = absurd (h refl)
free_or_forced (suc zero) h = inl refl
free_or_forced (suc (suc s)) h = inr (omega arith)

-- a status that says a literal's byte is forced to it
forced_by_of : (s : ℕ) (l : ℤ) → 2 ≤ s → s ≤ 3 → forced_value s ≡ true_byte l → s ≡ forced_by (true_byte l)
forced_by_of zero l h k e = absurd (omega arith)
forced_by_of (suc zero) l h k e = absurd (omega arith)
forced_by_of (suc (suc zero)) (pos n) h k e = refl
forced_by_of (suc (suc zero)) (negsuc n) h k e = absurd (omega arith)
forced_by_of (suc (suc (suc zero))) (pos n) h k e = absurd (omega arith)
forced_by_of (suc (suc (suc zero))) (negsuc n) h k e = refl
forced_by_of (suc (suc (suc (suc s)))) l h k e = absurd (omega arith)

module _ {k : Task} {first : Values} {models : List Values} {ss : List ℕ} (w : Known k first models ss) (z : opens ss ≡ 0) where
  forced_complete : (l : ℤ) → index_of l < k.vars → Forced k.vars k.formula l → is_forced_to ss l
  forced_complete l h f = go (free_or_forced (status_at ss (index_of l)) (no_open ss z (index_of l)))
    where
      go : (status_at ss (index_of l) ≡ 1) ⊎ (2 ≤ status_at ss (index_of l)) → is_forced_to ss l
      go (inl e) = absurd (forced_not_free f (free_of_witness (first_model_is w) w.models_are (w.free (index_of l) h e)))
      go (inr q) =
          forced_by_of (status_at ss (index_of l)) l q (w.small (index_of l))
          (sym (w.forced (index_of l) q first (first_model_is w)) ∙ eqb-true _ (true_byte l) (f.in_all first (first_model_is w)))

  free_complete : (i : ℕ) → Free k.vars k.formula i → status_at ss i ≡ 1
  free_complete i d = go (free_or_forced (status_at ss i) (no_open ss z i))
    where
      go : (status_at ss i ≡ 1) ⊎ (2 ≤ status_at ss i) → status_at ss i ≡ 1
      go (inl e) = e
      go (inr q) = absurd (d.differ (w.forced i q d.one d.one_is ∙ sym (w.forced i q d.two d.two_is)))

-- ---- the run

pub index_of_lt : {n : ℕ} (l : ℤ) → LitUpTo n l → index_of l < n
index_of_lt (pos zero) h = absurd (omega (arith, h.some))
index_of_lt (pos (suc n)) h = omega (arith, h.most)
index_of_lt (negsuc n) h = omega (arith, h.most)

-- the statuses before there is a model: all open
pub blank_open : (n i : ℕ) → i < n → status_at (replicate n 0) i ≡ 0
blank_open zero i h = absurd (omega arith)
blank_open (suc n) zero h = refl
blank_open (suc n) (suc i) h = blank_open n i (omega arith)

-- what a run has shown when it ends: nothing, if its first call found no model; otherwise what is known at its last progress
data Shown (k : Task) (p : Progress) : Type 0 where
  nothing_yet : p.statuses ≡ replicate k.vars 0 → Shown k p
  by_models : Known k p.first p.models p.statuses → (rest : List Values) → p.models ≡ p.first ∷ rest → Shown k p

ends_shown : {k : Task} {e : Ended} → Ends k e → Shown k e.progress
ends_shown (first_none t e) = nothing_yet refl
ends_shown (first_stopped t e) = nothing_yet refl
ends_shown (settled r o) = let (rest, q) = models_first r in by_models (known r) rest q
ends_shown (next_stopped t r o e) = let (rest, q) = models_first r in by_models (known r) rest q

module _ (k : Task) (limit : 1 ≤ k.limit) where
  shown : Shown k (run k).progress
  shown = ends_shown (run_ends k limit)

  -- a run is settled, finds no model, or is stopped
  pub run_answer_lem : ((run k).answer ≡ RunAnswer.Settled) ⊎ (((run k).answer ≡ RunAnswer.NoModel) ⊎ ((run k).answer ≡ RunAnswer.Stopped))
  run_answer_lem = go (run_ends k limit)
    where
      go : {e : Ended} → Ends k e → (e.answer ≡ RunAnswer.Settled) ⊎ ((e.answer ≡ RunAnswer.NoModel) ⊎ (e.answer ≡ RunAnswer.Stopped))
      go (first_none t e) = inr (inl refl)
      go (first_stopped t e) = inr (inr refl)
      go (settled r o) = inl refl
      go (next_stopped t r o e) = inr (inr refl)

  -- there is a status for each variable, and it is 0, 1, 2 or 3
  pub run_statuses : (length (run k).progress.statuses ≡ k.vars) × ((i : ℕ) → status_at (run k).progress.statuses i ≤ 3)
  run_statuses = go shown
    where
      go : {p : Progress} → Shown k p → (length p.statuses ≡ k.vars) × ((i : ℕ) → status_at p.statuses i ≤ 3)
      go (nothing_yet e) = rw e (length-replicate k.vars 0, λ i. omega (arith, (blank_proper k.vars).small i))
      go (by_models w rest q) = (w.len, w.small)

  -- a literal marked forced is in all models, and there is one: in a stopped run too
  pub run_forced : (l : ℤ) → LitUpTo k.vars l → is_forced_to (run k).progress.statuses l → Forced k.vars k.formula l
  run_forced l h = go shown
    where
      go : {p : Progress} → Shown k p → is_forced_to p.statuses l → Forced k.vars k.formula l
      go (nothing_yet e) f =
          absurd (omega (arith, rw e at f, blank_open k.vars (index_of l) (index_of_lt l h), forced_by_le l))
      go (by_models w rest q) f = known_forced w l f

  -- a variable marked free has a witness: a model of the run that differs on it from the run's first model, or one that does so
  -- with this variable alone flipped and is still a model. In a stopped run too
  pub run_free : (i : ℕ) → i < k.vars → status_at (run k).progress.statuses i ≡ 1 → WitnessOf k.vars k.formula (run k).progress.models i
  run_free i h = go shown
    where
      go : {p : Progress} → Shown k p → status_at p.statuses i ≡ 1 → WitnessOf k.vars k.formula p.models i
      go (nothing_yet e) f = absurd (omega (arith, rw e at f, blank_open k.vars i h))
      go {p} (by_models w rest q) f =
          record { first = p.first; rest = rest; models_are = q; witness = w.free i h f; each = w.models_are }

  -- a settled run has no candidate left
  settled_known : (run k).answer ≡ RunAnswer.Settled
      → Known k (run k).progress.first (run k).progress.models (run k).progress.statuses × (opens (run k).progress.statuses ≡ 0)
  settled_known = go (run_ends k limit)
    where
      go : {e : Ended} → Ends k e → e.answer ≡ RunAnswer.Settled
          → Known k e.progress.first e.progress.models e.progress.statuses × (opens e.progress.statuses ≡ 0)
      go (first_none t e) z = apart cc
      go (first_stopped t e) z = apart cc
      go (settled r o) z = (known r, o)
      go (next_stopped t r o e) z = apart cc

  -- a settled run has found a model
  pub settled_model : (run k).answer ≡ RunAnswer.Settled → (m : Values) × Model k.vars k.formula m
  settled_model a = ((run k).progress.first, first_model_is (settled_known a).0)

  -- a settled run leaves no variable open
  pub settled_none_open : (run k).answer ≡ RunAnswer.Settled → (i : ℕ) → status_at (run k).progress.statuses i ≢ 0
  settled_none_open a i = no_open (run k).progress.statuses (settled_known a).1 i

  -- a settled run marks a literal forced exactly if a model exists and all models contain it
  pub settled_forced : (run k).answer ≡ RunAnswer.Settled → (l : ℤ) → LitUpTo k.vars l
      → is_forced_to (run k).progress.statuses l ↔ Forced k.vars k.formula l
  settled_forced a l h = let (w, z) = settled_known a in (run_forced l h, forced_complete w z l (index_of_lt l h))

  -- and a variable free exactly if models differ on it
  pub settled_free : (run k).answer ≡ RunAnswer.Settled → (i : ℕ) → i < k.vars → (status_at (run k).progress.statuses i ≡ 1) ↔ Free k.vars k.formula i
  settled_free a i h = let (w, z) = settled_known a in (λ e. free_of_witness (first_model_is w) w.models_are (w.free i h e), free_complete w z i)

  -- unless it is stopped, a run answers "no model" exactly if there is none
  pub no_model_exactly : (run k).answer ≢ RunAnswer.Stopped → ((run k).answer ≡ RunAnswer.NoModel) ↔ NoModel k.vars k.formula
  no_model_exactly s = (sound (run_ends k limit), complete (run_ends k limit) s)
    where
      sound : {e : Ended} → Ends k e → e.answer ≡ RunAnswer.NoModel → NoModel k.vars k.formula
      sound (first_none t e) z =
          record { none = λ m x. (first_none_of k t e).none_from m (blank_extends k.vars m x.len) x.total x.all_true }
      sound (first_stopped t e) z = apart cc
      sound (settled r o) z = apart cc
      sound (next_stopped t r o e) z = apart cc

      complete : {e : Ended} → Ends k e → e.answer ≢ RunAnswer.Stopped → NoModel k.vars k.formula → e.answer ≡ RunAnswer.NoModel
      complete (first_none t e) z f = refl
      complete (first_stopped t e) z f = absurd (z refl)
      complete (settled {p = p} r o) z f = absurd (f.none p.first (first_model_is (known r)))
      complete (next_stopped t r o e) z f = absurd (z refl)

-- ---- two formulas with the same models

pub free_alike : {n : ℕ} {F G : List Clause} {i : ℕ} → ((m : Values) → Model n F m → Model n G m) → Free n F i → Free n G i
free_alike f d =
    record { one = d.one; two = d.two; one_is = f d.one d.one_is; two_is = f d.two d.two_is; differ = d.differ }

pub forced_alike : {n : ℕ} {F G : List Clause} {l : ℤ} → ((m : Values) → Model n F m ↔ Model n G m) → Forced n F l → Forced n G l
forced_alike f w =
    record { some_model = w.some_model; is-model = (f w.some_model).0 w.is-model; in_all = λ m x. w.in_all m ((f m).1 x) }

forced_value_inj : (s t : ℕ) → 2 ≤ s → s ≤ 3 → 2 ≤ t → t ≤ 3 → forced_value s ≡ forced_value t → s ≡ t
forced_value_inj zero t a b c d e = absurd (omega arith)
forced_value_inj (suc zero) t a b c d e = absurd (omega arith)
forced_value_inj (suc (suc s)) zero a b c d e = absurd (omega arith)
forced_value_inj (suc (suc s)) (suc zero) a b c d e = absurd (omega arith)
forced_value_inj (suc (suc zero)) (suc (suc zero)) a b c d e = refl
forced_value_inj (suc (suc zero)) (suc (suc (suc t))) a b c d e = absurd (omega arith)
forced_value_inj (suc (suc (suc s))) (suc (suc zero)) a b c d e = absurd (omega arith)
forced_value_inj (suc (suc (suc s))) (suc (suc (suc t))) a b c d e = omega arith

-- settled runs of two formulas with the same models, of as many variables, give the same statuses, whatever their budgets and chunk limits
pub settled_alike : (k : Task) (budget limit : ℕ) (G : List Clause) → ((m : Values) → Model k.vars k.formula m ↔ Model k.vars G m)
    → 1 ≤ k.limit → 1 ≤ limit → (run k).answer ≡ RunAnswer.Settled
    → (run (record { vars = k.vars; budget = budget; limit = limit; formula = G })).answer ≡ RunAnswer.Settled
    → (run k).progress.statuses ≡ (run (record { vars = k.vars; budget = budget; limit = limit; formula = G })).progress.statuses
settled_alike k budget limit G models h g a b =
    ext_get_or 1 ss ts ((run_statuses k h).0 ∙ sym (run_statuses j g).0) (λ i l. same i (kinds k h a i) (kinds j g b i) (rw (run_statuses k h).0 at l))
  where
    j : Task
    j = record { vars = k.vars; budget = budget; limit = limit; formula = G }

    ss : List ℕ
    ss = (run k).progress.statuses

    ts : List ℕ
    ts = (run j).progress.statuses

    kinds : (n : Task) (q : 1 ≤ n.limit) → (run n).answer ≡ RunAnswer.Settled → (i : ℕ)
        → (status_at (run n).progress.statuses i ≡ 1) ⊎ (2 ≤ status_at (run n).progress.statuses i)
    kinds n q e i = free_or_forced (status_at (run n).progress.statuses i) (settled_none_open n q e i)

    -- free in the one: models differ on it, so it is free in the other
    free_both : (i : ℕ) → i < k.vars → (status_at ss i ≡ 1) ↔ (status_at ts i ≡ 1)
    free_both i l =
        let one = settled_free k h a i l in
        let two = settled_free j g b i l in
        (λ e. two.1 (free_alike (λ m. (models m).0) (one.0 e)), λ e. one.1 (free_alike (λ m. (models m).1) (two.0 e)))

    same : (i : ℕ) → (status_at ss i ≡ 1) ⊎ (2 ≤ status_at ss i) → (status_at ts i ≡ 1) ⊎ (2 ≤ status_at ts i) → i < k.vars → status_at ss i ≡ status_at ts i
    same i (inl e) q l = e ∙ sym ((free_both i l).0 e)
    same i (inr p) (inl e) l = (free_both i l).1 e ∙ sym e
    same i (inr p) (inr q) l =
        let (w, z) = settled_known k h a in
        let (v, y) = settled_known j g b in
        let m = first_model_is w in
        forced_value_inj (status_at ss i) (status_at ts i) p (w.small i) q (v.small i)
        (sym (w.forced i p (run k).progress.first m) ∙ v.forced i q (run k).progress.first ((models (run k).progress.first).0 m))

-- of one formula
pub settled_same : (k : Task) (budget limit : ℕ) → 1 ≤ k.limit → 1 ≤ limit → (run k).answer ≡ RunAnswer.Settled
    → (run (with_limits k budget limit)).answer ≡ RunAnswer.Settled
    → (run k).progress.statuses ≡ (run (with_limits k budget limit)).progress.statuses
settled_same k budget limit = settled_alike k budget limit k.formula (λ m. (λ x. x, λ x. x))
