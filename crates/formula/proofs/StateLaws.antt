-- The clause test by its parts: what a search through a clause knows of the literals that it passed, and the state of a clause by its
-- true literals first and then by its distinct unset ones.
--
--   any_is, asked_at              what `any` of the code is, and what it asks of a literal
--   none_step, none_done          no literal passed passes a test: it goes on, pays off
--   first_here, first_none        the first literal that passes, where none before it does
--   other_differs, other_equals   the test for an unset literal other than l, where k is not l, or is
--   other_same                    no unset literal is another than l exactly if all of them are l
--   state_of_true, state_of_none, state_of_first     the state of a clause that has a true literal, no unset one, a first unset one
--
-- Assumes nothing.
use mathlib.Core.Path.{◌≡◌, refl, sym, ◌∙◌, ap, subst}
use mathlib.Core.Logic.{◌≢◌}
use mathlib.Core.Bool.{Bool, true, false, not, ◌&&◌, ◌||◌}
use mathlib.Core.List.{List, [], ◌∷◌}
use Prim.Native.Nat.{ℕ, ◌+◌, ◌^◌, ◌<◌, ◌≤◌}
use lib.Signed.{mag}
use mir.Syntax.{w32}
use mir.Val.{to_z, of_z}
use native.Mathlib.Numerals.{add-one}
use lib.IntN.{ℤ, pos}
use lib.ListN.{get_or, length, take, take-append-drop}
use lib.Seq.{take-suc, take_all, drop-cons}
use Rattle.rules.specs.declared.Lit.{Lit}
use Rattle.rules.specs.declared.ClauseState.TheVariants.{False, True}
use Rattle.rules.specs.Lists.{any, all, keep, keep_if, eqz}
use Rattle.rules.specs.Meaning.{LitUpTo, Clause, Values, is_unset, has_true}
use Rattle.rules.specs.Closing.{literal, unit_if, state_by, state_of}
use Rattle.rules.proofs.BitLaws.{to_z-of_z_at}
use Rattle.rules.proofs.ListLaws.{in_get_d, apart, never, any_append, keep_append, eqz_refl, eqz_complete, eqz_other}
use Rattle.std.specs.Prelude.{None, Some}
use Rattle.std.specs.List.{list_any}
use Rattle.formula.specs.Clauses.{ClauseUpTo, first_in, first_unset, is_other_unset, has_other_unset}

-- ---- the tests of the code

pub any_is : (p : ℤ → Bool) (cl : Clause) → any p cl ≡ list_any p cl
any_is p [] = refl
any_is p (l ∷ cl) = ap (λ b. p l || b) (any_is p cl)

-- what a closure over a clause asks of the literal at an index, which it reads as an i32
pub asked_at : {n : ℕ} {cl : Clause} → ClauseUpTo n cl → (l : ℤ) (k : ℕ) → k < length cl → l ≡ get_or cl k l → mag l < 2 ^ 31
    → LitUpTo n (to_z w32 (of_z w32 l))
asked_at {n} {cl} g l k h e m =
    rw (to_z-of_z_at l (record { sfits = m })) (subst (LitUpTo n) (sym e) (g.each (get_or cl k l) (in_get_d cl k l h)))

-- ---- a search: no literal passed passes the test

keep_none : (p : ℤ → Bool) (cl : Clause) → any p cl ≡ false → keep p cl ≡ []
keep_none p [] n = refl
keep_none p (l ∷ cl) n = go (p l) n (keep_none p cl)
  where
    go : (b : Bool) → (b || any p cl) ≡ false → (any p cl ≡ false → keep p cl ≡ []) → keep_if b l (keep p cl) ≡ []
    go true n ih = absurd (never refl n)
    go false n ih = ih n

module _ (p : ℤ → Bool) (cl : Clause) (i : ℕ) (n : any p (take i cl) ≡ false) where
  pub none_step : i < length cl → p (get_or cl i (pos 0)) ≡ false → any p (take (i + 1) cl) ≡ false
  none_step h f = rw (add-one i, take-suc cl i (pos 0) h, any_append p (take i cl) (get_or cl i (pos 0) ∷ []), n, f)

  pub none_done : length cl ≤ i → any p cl ≡ false
  none_done h = ap (any p) (sym (take_all i cl h)) ∙ n

  pub first_here : i < length cl → p (get_or cl i (pos 0)) ≡ true → first_in (keep p cl) ≡ Some (literal (get_or cl i (pos 0)))
  first_here h t =
      ap (λ (xs : List ℤ). first_in (keep p xs)) (sym (take-append-drop i cl))
      ∙ rw (drop-cons cl i (pos 0) h, keep_append p (take i cl), keep_none p (take i cl) n, t)

  pub first_none : length cl ≤ i → first_in (keep p cl) ≡ None
  first_none h = ap first_in (keep_none p cl (none_done h))

-- ---- an unset literal other than l

module _ (vs : Values) (l k : ℤ) where
  pub other_differs : k ≢ l → is_other_unset vs l k ≡ is_unset vs k
  other_differs d = rw (eqz_other l k (λ e. d (sym e)))

  pub other_equals : k ≡ l → is_other_unset vs l k ≡ false
  other_equals e = rw (eqz_complete l k (sym e))

pub other_same : (vs : Values) (l : ℤ) (cl : Clause) → not (has_other_unset vs l cl) ≡ all (eqz l) (keep (is_unset vs) cl)
other_same vs l [] = refl
other_same vs l (k ∷ cl) = go (eqz l k) (is_unset vs k) refl (other_same vs l cl)
  where
    go : (e u : Bool) → eqz l k ≡ e → not (has_other_unset vs l cl) ≡ all (eqz l) (keep (is_unset vs) cl)
        → not ((not e && u) || has_other_unset vs l cl) ≡ all (eqz l) (keep_if u k (keep (is_unset vs) cl))
    go true true q ih = rw q ih
    go true false q ih = ih
    go false true q ih = rw q
    go false false q ih = ih

-- ---- the state by its parts

module _ (vs : Values) (cl : Clause) where
  pub state_of_true : has_true vs cl ≡ true → state_of vs cl ≡ True
  unfolding state_of
  state_of_true t = rw t

  pub state_of_none : has_true vs cl ≡ false → first_unset vs cl ≡ None → state_of vs cl ≡ False
  unfolding state_of
  state_of_none n e = rw n (go (keep (is_unset vs) cl) e)
    where
      go : (us : List ℤ) → first_in us ≡ None → state_by false us ≡ False
      go [] e = refl
      go (k ∷ us) e = apart cc

  pub state_of_first : (l : Lit) → has_true vs cl ≡ false → first_unset vs cl ≡ Some l
      → state_of vs cl ≡ unit_if (not (has_other_unset vs l.0 cl)) l.0
  unfolding state_of
  state_of_first l n e = rw (n, other_same vs l.0 cl) (go (keep (is_unset vs) cl) e)
    where
      go : (us : List ℤ) → first_in us ≡ Some l → state_by false us ≡ unit_if (all (eqz l.0) us) l.0
      go [] e = apart cc
      go (k ∷ us) e =
          let q : l ≡ literal k = cc in
          subst (λ (x : Lit). state_by false (k ∷ us) ≡ unit_if (all (eqz x.0) (k ∷ us)) x.0) (sym q) (rw (eqz_refl k))
