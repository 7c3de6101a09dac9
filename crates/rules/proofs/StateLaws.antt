-- The laws of a clause's state, docs/RULES.md, "Closing": what each state says of the clause's literals, that nothing else does, and
-- what it says of values that extend these.
--
--   AllFalse, OneUnset, TwoUnset, Means     what the states say
--   means, state_unique           a clause's state says so of it, and no other state does
--   unit_sound, false_sound       values that extend and make the clause true: a unit's literal is true, no clause is false
--   Calm, calm_of_quiet, quiet_of_calm     a state that neither stops a round nor sets anything
--
-- Assumes nothing.
use mathlib.Core.Path.{◌≡◌, refl, sym, ◌∙◌, ap}
use mathlib.Core.Logic.{◌≢◌, ◌⊎◌, inl, inr}
use mathlib.Core.Bool.{Bool, true, false}
use mathlib.Core.List.Memᴰ
use mathlib.Core.List.{List, [], ◌∷◌}
use lib.IntN.{ℤ}
use Rattle.rules.specs.declared.Lit.{Lit}
use Rattle.rules.specs.declared.ClauseState.{ClauseState}
use Rattle.rules.specs.declared.ClauseState.TheVariants.{False, Unit, True, Undecided}
use Rattle.rules.specs.Lists.{In, all, keep, eqz}
use Rattle.rules.specs.Meaning.{Clause, Values, is_true, is_unset, has_true}
use Rattle.rules.specs.Closing.{literal, unit_if, state_by, state_of}
use Rattle.rules.specs.Models.{Extends}
use Rattle.rules.specs.Visits.{Quiet}
use Rattle.rules.proofs.ListLaws.{both, never, not-true, any_sound, none_of_any, all_sound}
use Rattle.rules.proofs.ListLaws.{all_false, keep_sound, keep_complete, eqz_sound, eqz_complete}
use Rattle.rules.proofs.MeaningLaws.{is_true_frame}

-- ---- what a state says

pub record AllFalse (vs : Values) (cl : Clause) : Type 0 where
  pub none_true : has_true vs cl ≡ false
  pub none_unset : (k : ℤ) → In k cl → is_unset vs k ≡ false

pub record OneUnset (vs : Values) (cl : Clause) (l : ℤ) : Type 0 where
  pub none_true : has_true vs cl ≡ false
  pub is-in : In l cl
  pub unset : is_unset vs l ≡ true
  pub only : (k : ℤ) → In k cl → is_unset vs k ≡ true → k ≡ l

pub record TwoUnset (vs : Values) (cl : Clause) : Type 0 where
  pub none_true : has_true vs cl ≡ false
  pub one : ℤ
  pub two : ℤ
  pub one_in : In one cl
  pub two_in : In two cl
  pub one_unset : is_unset vs one ≡ true
  pub two_unset : is_unset vs two ≡ true
  pub differ : eqz one two ≡ false

abbrev pub Means : Values → Clause → ClauseState → Type 0
Means vs cl False = AllFalse vs cl
Means vs cl (Unit l) = OneUnset vs cl l.0
Means vs cl True = has_true vs cl ≡ true
Means vs cl Undecided = TwoUnset vs cl

pub means : (vs : Values) (cl : Clause) → Means vs cl (state_of vs cl)
unfolding state_of
means vs cl = go (has_true vs cl) (keep (is_unset vs) cl) refl refl
  where
    kept : {l : ℤ} {us : List ℤ} → keep (is_unset vs) cl ≡ l ∷ us → (k : ℤ) → In k (l ∷ us) → In k cl × (is_unset vs k ≡ true)
    kept e k i = keep_sound (is_unset vs) cl (rw e i)

    same : (l : ℤ) (us : List ℤ) → all (eqz l) us ≡ true → (k : ℤ) → In k (l ∷ us) → k ≡ l
    same l us h k (Memᴰ.head q) = q
    same l us h k (Memᴰ.tail j) = sym (eqz_sound l k (all_sound (eqz l) h j))

    one : (l : ℤ) (us : List ℤ) (b : Bool) → has_true vs cl ≡ false → keep (is_unset vs) cl ≡ l ∷ us → all (eqz l) us ≡ b
        → Means vs cl (unit_if b l)
    one l us true n e h =
        let (i, u) = kept e l (Memᴰ.head refl) in
        record { none_true = n; is-in = i; unset = u; only = λ k j v. same l us h k (rw e at (keep_complete (is_unset vs) j v)) }
    one l us false n e h =
        let (k, j, d) = all_false (eqz l) us h in
        let (i, u) = kept e l (Memᴰ.head refl) in
        let (i', u') = kept e k (Memᴰ.tail j) in
        record { none_true = n; one = l; two = k; one_in = i; two_in = i'; one_unset = u; two_unset = u'; differ = d }

    go : (b : Bool) (us : List ℤ) → has_true vs cl ≡ b → keep (is_unset vs) cl ≡ us → Means vs cl (state_by b us)
    go true us t e = t
    go false [] t e =
        record {
          none_true = t;
          none_unset = λ k i. not-true (is_unset vs k) (λ u. Memᴰ.not-nil (rw e at (keep_complete (is_unset vs) i u)));
        }
    go false (l ∷ us) t e = one l us (all (eqz l) us) t e refl

pub state_unique : (vs : Values) (cl : Clause) (s : ClauseState) → Means vs cl s → state_of vs cl ≡ s
state_unique vs cl s m = go (state_of vs cl) s (means vs cl) m
  where
    one_two : (l : ℤ) → OneUnset vs cl l → TwoUnset vs cl → ⊥
    one_two l o w =
        let a : w.one ≡ l = o.only w.one w.one_in w.one_unset in
        let b : w.two ≡ l = o.only w.two w.two_in w.two_unset in
        never (eqz_complete w.one w.two (a ∙ sym b)) w.differ

    go : (r s : ClauseState) → Means vs cl r → Means vs cl s → r ≡ s
    go False False m n = refl
    go False (Unit l) m n = absurd (never n.unset (m.none_unset l.0 n.is-in))
    go False True m n = absurd (never n m.none_true)
    go False Undecided m n = absurd (never n.one_unset (m.none_unset n.one n.one_in))
    go (Unit k) False m n = absurd (never m.unset (n.none_unset k.0 m.is-in))
    go (Unit k) (Unit l) m n = ap (λ (x : ℤ). Unit (literal x)) (n.only k.0 m.is-in m.unset)
    go (Unit k) True m n = absurd (never n m.none_true)
    go (Unit k) Undecided m n = absurd (one_two k.0 m n)
    go True False m n = absurd (never m n.none_true)
    go True (Unit l) m n = absurd (never m n.none_true)
    go True True m n = refl
    go True Undecided m n = absurd (never m n.none_true)
    go Undecided False m n = absurd (never m.one_unset (n.none_unset m.one m.one_in))
    go Undecided (Unit l) m n = absurd (one_two l.0 n m)
    go Undecided True m n = absurd (never n m.none_true)
    go Undecided Undecided m n = refl

-- ---- values that extend

-- what is set in a clause with no true literal is not true in values that extend
not_true_after : {vs m : Values} {cl : Clause} (k : ℤ) → Extends vs m → has_true vs cl ≡ false → In k cl → is_unset vs k ≡ false
    → is_true m k ≡ true → ⊥
not_true_after {vs} k x n i u t = never (sym (is_true_frame k x u) ∙ t) (none_of_any (is_true vs) n i)

pub unit_sound : {vs m : Values} (cl : Clause) (l : ℤ) → Extends vs m → has_true m cl ≡ true → OneUnset vs cl l → is_true m l ≡ true
unit_sound {vs} {m} cl l x h s = let (k, i, t) = any_sound (is_true m) cl h in go k i t (both (is_unset vs k))
  where
    go : (k : ℤ) → In k cl → is_true m k ≡ true → (is_unset vs k ≡ true) ⊎ (is_unset vs k ≡ false) → is_true m l ≡ true
    go k i t (inl u) = rw (s.only k i u) at t
    go k i t (inr u) = absurd (not_true_after k x s.none_true i u t)

pub false_sound : {vs m : Values} (cl : Clause) → Extends vs m → has_true m cl ≡ true → AllFalse vs cl → ⊥
false_sound {vs} {m} cl x h s =
    let (k, i, t) = any_sound (is_true m) cl h in not_true_after k x s.none_true i (s.none_unset k i) t

-- ---- states that do nothing

-- a state that neither stops a round nor sets anything
abbrev pub Calm : ClauseState → Type 0
Calm False = ⊥
Calm (Unit l) = ⊥
Calm True = Prim.Unit {0}
Calm Undecided = Prim.Unit {0}

pub calm_of_quiet : {vs : Values} {F : List Clause} (cl : Clause) → Quiet vs F → In cl F → Calm (state_of vs cl)
calm_of_quiet {vs} cl q i = go (state_of vs cl) (λ e. q.not-false cl i e) (λ l e. q.not_unit cl l i e)
  where
    go : (s : ClauseState) → s ≢ False → ((l : Lit) → s ≢ Unit l) → Calm s
    go False f u = f refl
    go (Unit l) f u = u l refl
    go True f u = tt
    go Undecided f u = tt

pub quiet_of_calm : {vs : Values} {F : List Clause} → ((cl : Clause) → In cl F → Calm (state_of vs cl)) → Quiet vs F
quiet_of_calm f = record { not-false = λ cl i e. rw e at (f cl i); not_unit = λ cl l i e. rw e at (f cl i) }
