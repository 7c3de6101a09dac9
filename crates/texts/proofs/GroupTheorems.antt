-- What a run on an expanded list says of setups, which are lists of values, one a group (docs/RULES.md, "Groups").
--
--   setup_model, model_setup      setups that keep the file's clauses and models of the expanded list are the same thing, one for one
--   no_setup_exactly              20 is answered exactly if there is no valid setup, unless stopped
--   settled_setup                 with answer 0 there is one
--   dead_exactly                  with answer 0 a value is forced off exactly if no valid setup uses it
--   settled_exactly               forced on exactly if every valid setup uses it, and there is one
--   free_exactly                  free exactly if one uses it and another one does not
--   expanded-clauses, expanded_clauses_of, expanded_up_to     the entries of the expanded list: its clauses, how many, their variables
--
-- Assumes nothing.
use mathlib.Core.Path.{◌≡◌, refl, sym, ◌∙◌, ap, subst, subst₂}
use mathlib.Core.Logic.{◌≢◌, ◌↔◌, ◌⊎◌, inl, inr}
use mathlib.Core.Bool.{Bool, true, false, not}
use mathlib.Core.List.Memᴰ
use mathlib.Core.List.{List, [], ◌∷◌, ◌++◌, append_assoc}
use Prim.Native.Nat.{ℕ, suc, ◌+◌, ◌≤◌}
use native.Mathlib.Omega.{arith}
use lib.Dec.{eqb}
use lib.IntN.{ℤ, pos, negsuc}
use lib.ListN.{length}
use lib.Seq.{ext_get_or}
use borrow.Author.Tests.{eqb-true, eqb-false, eq-eqb, ne_eqb}
use Rattle.rules.specs.declared.RunAnswer.{RunAnswer}
use Rattle.rules.specs.Lists.{In, any, is_zero}
use Rattle.rules.specs.Meaning.{Clause, Values, var_of, clauses, value_at, is_true, satisfies, LitUpTo, Model}
use Rattle.rules.specs.Models.{Free}
use Rattle.rules.specs.Run.{Task, status_at, run}
use Rattle.texts.specs.Grammar.{ClausesOf, no_clause, clause}
use Rattle.texts.specs.Plain.{entries_of}
use Rattle.texts.specs.Groups.{vars_in, groups_from, expanded, expanded_entries, ValidSetup, ValueOf, index_in, value_in, byte_if, bytes_of, setup_in}
use Rattle.texts.proofs.ByteLaws.{no_zero_complete}
use Rattle.texts.proofs.PlainLaws.{clauses_clause, clauses_of_entries_of, entries_of_le}
use Rattle.rules.proofs.MeaningLaws.{satisfies-left, satisfies_right, satisfies-append}
use Rattle.texts.proofs.GroupLaws.{groups_sound, groups_complete, length-bytes_of, value_at-bytes_of, total-bytes_of, is_true-bytes_of}
use Rattle.texts.proofs.GroupLaws.{keeps_bytes_of, setup_in-bytes_of, index_in_lt, uses-value_of, groups_literals}
use Rattle.rules.proofs.RunTheorems.{settled_forced, settled_free, settled_model, no_model_exactly}

-- ---- setups and models, one for one

-- what a model of the expanded list is
record Found (sizes : List ℕ) (F : List Clause) (m : Values) : Type 0 where
  setup : List ℕ
  valid : ValidSetup sizes F setup
  bytes : bytes_of sizes setup ≡ m

module _ (sizes : List ℕ) (F : List Clause) where
  valid_model : {ks : List ℕ} → ValidSetup sizes F ks → Model (vars_in sizes) (expanded sizes F) (bytes_of sizes ks)
  unfolding expanded
  valid_model {ks} v =
      record {
        len = length-bytes_of v.is-setup;
        total = total-bytes_of v.is-setup;
        all_true =
            satisfies-append (bytes_of sizes ks) (groups_from 0 sizes) F
            (groups_sound (bytes_of sizes ks) 0 v.is-setup
            (record { bytes = λ j h. ap (value_at (bytes_of sizes ks)) (omega arith) ∙ value_at-bytes_of v.is-setup j }))
            (keeps_bytes_of v.is-setup F ∙ v.keeps);
      }

  found : {m : Values} → Model (vars_in sizes) (expanded sizes F) m → Found sizes F m
  unfolding expanded
  found {m} x =
      let (ks, s, a) = groups_complete m x.total 0 sizes (satisfies-left m (groups_from 0 sizes) F x.all_true) in
      let same : bytes_of sizes ks ≡ m =
      ext_get_or 1 (bytes_of sizes ks) m (length-bytes_of s ∙ sym x.len)
      (λ i h. value_at-bytes_of s i ∙ sym (a.bytes i (omega (arith, length-bytes_of s))) ∙ ap (value_at m) (omega arith)) in
      record {
        setup = ks;
        valid =
            record {
              is-setup = s;
              keeps = sym (keeps_bytes_of s F) ∙ ap (λ (w : Values). satisfies w F) same ∙ satisfies_right m (groups_from 0 sizes) F x.all_true;
            };
        bytes = same;
      }

  -- A valid setup is a model, and is found in it again.
  pub setup_model : (ks : List ℕ) → ValidSetup sizes F ks
      → Model (vars_in sizes) (expanded sizes F) (bytes_of sizes ks) × (setup_in sizes (bytes_of sizes ks) ≡ ks)
  setup_model ks v = (valid_model v, setup_in-bytes_of v.is-setup)

  -- A model is a valid setup, whose bytes it has.
  pub model_setup : (m : Values) → Model (vars_in sizes) (expanded sizes F) m
      → ValidSetup sizes F (setup_in sizes m) × (bytes_of sizes (setup_in sizes m) ≡ m)
  model_setup m x =
      let f = found x in
      let same : f.setup ≡ setup_in sizes m = sym (setup_in-bytes_of f.valid.is-setup) ∙ ap (setup_in sizes) f.bytes in
      (subst (ValidSetup sizes F) same f.valid, ap (bytes_of sizes) (sym same) ∙ f.bytes)

  -- ---- a value of a group in setups and in models

  used : {ks : List ℕ} → ValidSetup sizes F ks → (g k : ℕ) → ValueOf sizes g k
      → is_true (bytes_of sizes ks) (pos (suc (index_in sizes g k))) ≡ eqb (value_in ks g) k
  used v g k o = is_true-bytes_of v.is-setup (pos (suc (index_in sizes g k))) ∙ uses-value_of v.is-setup g k o

  unused : {ks : List ℕ} → ValidSetup sizes F ks → (g k : ℕ) → ValueOf sizes g k
      → is_true (bytes_of sizes ks) (negsuc (index_in sizes g k)) ≡ not (eqb (value_in ks g) k)
  unused v g k o = is_true-bytes_of v.is-setup (negsuc (index_in sizes g k)) ∙ ap not (uses-value_of v.is-setup g k o)

not_not : (b : Bool) → not b ≡ true → b ≡ false
not_not true h = sym h
not_not false h = refl

-- ---- the run

module _ (sizes : List ℕ) (F : List Clause) (task : Task)
    (vars : task.vars ≡ vars_in sizes) (formula : task.formula ≡ expanded sizes F) (limit : 1 ≤ task.limit) where
  is-model : {m : Values} → Model task.vars task.formula m → Model (vars_in sizes) (expanded sizes F) m
  is-model {m} x = rw (vars, formula) at x

  of_model : {m : Values} → Model (vars_in sizes) (expanded sizes F) m → Model task.vars task.formula m
  of_model {m} x = rw (vars, formula) x

  -- Unless it is stopped, a run answers "no model" exactly if there is no valid setup.
  pub no_setup_exactly : (run task).answer ≢ RunAnswer.Stopped → ((run task).answer ≡ RunAnswer.NoModel) ↔ ((ks : List ℕ) → ValidSetup sizes F ks → ⊥)
  no_setup_exactly s =
      let e = no_model_exactly task limit s in (
        λ a ks v. (e.0 a).none (bytes_of sizes ks) (of_model (setup_model sizes F ks v).0),
        λ f. e.1 (record { none = λ m x. f (setup_in sizes m) (model_setup sizes F m (is-model x)).0 }),
      )

  module _ (a : (run task).answer ≡ RunAnswer.Settled) where
    -- With answer 0 there is a valid setup.
    pub settled_setup : (ks : List ℕ) × ValidSetup sizes F ks
    settled_setup = let (m, x) = settled_model task limit a in (setup_in sizes m, (model_setup sizes F m (is-model x)).0)

    module _ (g k : ℕ) (o : ValueOf sizes g k) where
      up_to : (l : ℤ) → (l ≡ pos (suc (index_in sizes g k))) ⊎ (l ≡ negsuc (index_in sizes g k)) → LitUpTo task.vars l
      up_to l (inl e) = rw (e, vars) (record { some = omega arith; most = index_in_lt sizes g k o })
      up_to l (inr e) = rw (e, vars) (record { some = omega arith; most = index_in_lt sizes g k o })

      -- dead: no valid setup uses it
      pub dead_exactly : (status_at (run task).progress.statuses (index_in sizes g k) ≡ 3)
          ↔ ((ks : List ℕ) → ValidSetup sizes F ks → value_in ks g ≢ k)
      dead_exactly =
          let l = negsuc (index_in sizes g k) in
          let e = settled_forced task limit a l (up_to l (inr refl)) in (
            λ s ks v q.
                omega (
                  arith,
                  eqb-false (value_in ks g) k
                      (not_not (eqb (value_in ks g) k)
                      (sym (unused sizes F v g k o) ∙ (e.0 s).in_all (bytes_of sizes ks) (of_model (setup_model sizes F ks v).0))),
                ),
            λ f.
                let (m, x) = settled_model task limit a in
                e.1 (record { some_model = m; is-model = x; in_all = λ n y. off n (is-model y) f }),
          )
        where
          off : (n : Values) → Model (vars_in sizes) (expanded sizes F) n → ((ks : List ℕ) → ValidSetup sizes F ks → value_in ks g ≢ k)
              → is_true n (negsuc (index_in sizes g k)) ≡ true
          off n y f =
              let (v, same) = model_setup sizes F n y in
              ap (λ (w : Values). is_true w (negsuc (index_in sizes g k))) (sym same) ∙ unused sizes F v g k o ∙
              ap not (ne_eqb (value_in (setup_in sizes n) g) k (f (setup_in sizes n) v))

      -- settled: every valid setup uses it, and there is one
      pub settled_exactly : (status_at (run task).progress.statuses (index_in sizes g k) ≡ 2)
          ↔ (((ks : List ℕ) × ValidSetup sizes F ks) × ((ks : List ℕ) → ValidSetup sizes F ks → value_in ks g ≡ k))
      settled_exactly =
          let l = pos (suc (index_in sizes g k)) in
          let e = settled_forced task limit a l (up_to l (inl refl)) in (
            λ s. (
              settled_setup,
              λ ks v.
                  eqb-true (value_in ks g) k (sym (used sizes F v g k o) ∙ (e.0 s).in_all (bytes_of sizes ks) (of_model (setup_model sizes F ks v).0)),
            ),
            λ f.
                let (m, x) = settled_model task limit a in
                e.1 (record { some_model = m; is-model = x; in_all = λ n y. on n (is-model y) f.1 }),
          )
        where
          on : (n : Values) → Model (vars_in sizes) (expanded sizes F) n → ((ks : List ℕ) → ValidSetup sizes F ks → value_in ks g ≡ k)
              → is_true n (pos (suc (index_in sizes g k))) ≡ true
          on n y f =
              let (v, same) = model_setup sizes F n y in
              ap (λ (w : Values). is_true w (pos (suc (index_in sizes g k)))) (sym same) ∙ used sizes F v g k o ∙
              eq-eqb (value_in (setup_in sizes n) g) k (f (setup_in sizes n) v)

      byte_of_lem : {m : Values} → Model (vars_in sizes) (expanded sizes F) m
          → value_at m (index_in sizes g k) ≡ byte_if (eqb (value_in (setup_in sizes m) g) k)
      byte_of_lem {m} x =
          let (v, same) = model_setup sizes F m x in
          ap (λ (w : Values). value_at w (index_in sizes g k)) (sym same) ∙ value_at-bytes_of v.is-setup (index_in sizes g k) ∙
          ap byte_if (uses-value_of v.is-setup g k o)

      -- free: one valid setup uses it, and another one does not
      pub free_exactly : (status_at (run task).progress.statuses (index_in sizes g k) ≡ 1)
          ↔ (((ks : List ℕ) × ValidSetup sizes F ks × (value_in ks g ≡ k)) × ((ks : List ℕ) × ValidSetup sizes F ks × (value_in ks g ≢ k)))
      free_exactly =
          let e = settled_free task limit a (index_in sizes g k) (rw vars (index_in_lt sizes g k o)) in
          (λ s. two (e.0 s), λ w. let (ks, v, p) = w.0 in let (js, x, q) = w.1 in e.1 (differ ks js v x p q))
        where
          Two : Type 0
          Two = ((ks : List ℕ) × ValidSetup sizes F ks × (value_in ks g ≡ k)) × ((ks : List ℕ) × ValidSetup sizes F ks × (value_in ks g ≢ k))

          of_tests : {m n : Values} → Model (vars_in sizes) (expanded sizes F) m → Model (vars_in sizes) (expanded sizes F) n
              → (b c : Bool) → eqb (value_in (setup_in sizes m) g) k ≡ b → eqb (value_in (setup_in sizes n) g) k ≡ c → byte_if b ≢ byte_if c → Two
          of_tests {m} {n} x y true true p q d = absurd (d refl)
          of_tests {m} {n} x y false false p q d = absurd (d refl)
          of_tests {m} {n} x y true false p q d = (
            (setup_in sizes m, (model_setup sizes F m x).0, eqb-true (value_in (setup_in sizes m) g) k p),
            (setup_in sizes n, (model_setup sizes F n y).0, eqb-false (value_in (setup_in sizes n) g) k q),
          )
          of_tests {m} {n} x y false true p q d = (
            (setup_in sizes n, (model_setup sizes F n y).0, eqb-true (value_in (setup_in sizes n) g) k q),
            (setup_in sizes m, (model_setup sizes F m x).0, eqb-false (value_in (setup_in sizes m) g) k p),
          )

          two : Free task.vars task.formula (index_in sizes g k) → Two
          two f =
              let x = is-model f.one_is in
              let y = is-model f.two_is in
              of_tests x y (eqb (value_in (setup_in sizes f.one) g) k) (eqb (value_in (setup_in sizes f.two) g) k) refl refl
              (λ e. f.differ (byte_of_lem x ∙ e ∙ sym (byte_of_lem y)))

          differ : (ks js : List ℕ) → ValidSetup sizes F ks → ValidSetup sizes F js → value_in ks g ≡ k → value_in js g ≢ k
              → Free task.vars task.formula (index_in sizes g k)
          differ ks js v w p q =
              record {
                one = bytes_of sizes ks;
                two = bytes_of sizes js;
                one_is = of_model (setup_model sizes F ks v).0;
                two_is = of_model (setup_model sizes F js w).0;
                differ =
                    λ e.
                    let on : value_at (bytes_of sizes ks) (index_in sizes g k) ≡ 2 =
                    value_at-bytes_of v.is-setup (index_in sizes g k) ∙ ap byte_if (uses-value_of v.is-setup g k o ∙ eq-eqb (value_in ks g) k p) in
                    let off : value_at (bytes_of sizes js) (index_in sizes g k) ≡ 1 =
                    value_at-bytes_of w.is-setup (index_in sizes g k) ∙ ap byte_if (uses-value_of w.is-setup g k o ∙ ne_eqb (value_in js g) k q) in
                    omega arith;
              }

-- ---- the expanded list as entries

no_zero : {n : ℕ} (cl : Clause) → ((l : ℤ) → In l cl → LitUpTo n l) → any is_zero cl ≡ false
no_zero cl f = no_zero_complete cl (λ i. omega (arith, (f (pos 0) i).some))

clauses_behind : (G : List Clause) (es : List ℤ) → ((cl : Clause) → In cl G → any is_zero cl ≡ false) → clauses (entries_of G ++ es) ≡ G ++ clauses es
clauses_behind [] es f = refl
clauses_behind (cl ∷ cls) es f =
    ap clauses (append_assoc cl (pos 0 ∷ entries_of cls) es) ∙ clauses_clause cl (entries_of cls ++ es) (f cl (Memᴰ.head refl)) ∙
    ap (λ (G : List Clause). cl ∷ G) (clauses_behind cls es (λ d i. f d (Memᴰ.tail i)))

-- no group has a zero
groups_no_zero : (sizes : List ℕ) (cl : Clause) → In cl (groups_from 0 sizes) → any is_zero cl ≡ false
groups_no_zero sizes cl i = no_zero {n = 0 + vars_in sizes} cl (groups_literals 0 sizes cl i)

-- The entries of the expanded list are its clauses.
pub expanded-clauses : (sizes : List ℕ) (es : List ℤ) → clauses (expanded_entries sizes es) ≡ expanded sizes (clauses es)
unfolding expanded expanded_entries
expanded-clauses sizes es = clauses_behind (groups_from 0 sizes) es (groups_no_zero sizes)

-- As many clauses as the groups have, and those of the file.
pub expanded_clauses_of : (sizes : List ℕ) {n : ℕ} {es : List ℤ} → ClausesOf n es → ClausesOf (length (groups_from 0 sizes) + n) (expanded_entries sizes es)
unfolding expanded_entries
expanded_clauses_of sizes c = clauses_of_append (clauses_of_entries_of (groups_from 0 sizes) (groups_no_zero sizes)) c
  where
    clauses_of_append : {m n : ℕ} {es fs : List ℤ} → ClausesOf m es → ClausesOf n fs → ClausesOf (m + n) (es ++ fs)
    clauses_of_append {n} {fs} no_clause d = subst (λ (x : ℕ). ClausesOf x fs) (omega arith) d
    clauses_of_append {n} {fs} (clause {n = m} cl {es} h c) d =
        subst₂ (λ (x : ℕ) (xs : List ℤ). ClausesOf x xs) (omega arith) (sym (append_assoc cl (pos 0 ∷ es) fs)) (clause cl h (clauses_of_append c d))

pub expanded_up_to : (sizes : List ℕ) (es : List ℤ) → ((l : ℤ) → In l es → var_of l ≤ vars_in sizes)
    → (l : ℤ) → In l (expanded_entries sizes es) → var_of l ≤ vars_in sizes
unfolding expanded_entries
expanded_up_to sizes es f l i = go (Memᴰ.append_cases (entries_of (groups_from 0 sizes)) i)
  where
    go : In l (entries_of (groups_from 0 sizes)) ⊎ In l es → var_of l ≤ vars_in sizes
    go (inl x) = omega (arith, entries_of_le (0 + vars_in sizes) (groups_from 0 sizes) (groups_literals 0 sizes) l x)
    go (inr x) = f l x
