-- What a key says of a clause's state: 0 that it is false, 1 that it is a unit, more that it does nothing in a round.
--
--   count_one_more, count_pos, count_two     a literal that passes is counted
--   hot_false, hot_unit, hot_some     key 0; key 1, and the first unset literal
--   cold_calm                     a key above 1
--   rounding_cold                 a round under way passes cold clauses
--
-- Assumes nothing.
use mathlib.Core.Path.{◌≡◌, refl, sym, ◌∙◌, ap}
use mathlib.Core.Bool.{Bool, true, false, not, ◌&&◌}
use mathlib.Core.List.Memᴰ
use mathlib.Core.List.{List, [], ◌∷◌, map}
use Prim.Native.Nat.{ℕ, zero, suc, ◌+◌, ◌-◌, ◌≤◌, ◌<◌}
use native.Mathlib.Omega.{arith}
use native.Mathlib.Nat.{add-zero}
use lib.IntN.{ℤ}
use lib.ListN.{get_or, length, drop}
use lib.Seq.{drop-cons}
use borrow.Author.Tests.{leb-false}
use Rattle.rules.specs.declared.Lit.{Lit}
use Rattle.rules.specs.declared.ClauseState.{ClauseState}
use Rattle.rules.specs.declared.ClauseState.TheVariants.{False, Unit, True, Undecided}
use Rattle.rules.specs.Lists.{In, any, count, count_if, keep, eqz}
use Rattle.rules.specs.Meaning.{Clause, Values, is_true, is_unset}
use Rattle.rules.specs.Closing.{literal, state_of, under_way, met, round}
use Rattle.rules.proofs.ListLaws.{apart, not-true, any_sound, any_complete, none_of_any, keep_sound, keep_complete, eqz_refl, eqz_other}
use Rattle.rules.proofs.StateLaws.{Means, means, Calm}
use Rattle.formula.specs.Clauses.{first_in, first_unset}
use Rattle.std.specs.Prelude.{Some, None}
use Rattle.board.specs.Keys.{holds, distinct, true_count, unset_count, key_of}
use Rattle.board.specs.Blocks.{is_hot}
use Rattle.board.proofs.KeyLaws.{count_more, count_none}
use Rattle.board.proofs.RoundLaws.{Rounding}

-- ---- a literal that passes is counted

-- the test without one literal
abbrev pub without : (ℤ → Bool) → ℤ → ℤ → Bool
without p l k = p k && not (eqz l k)

and_true : (b : Bool) → (b && true) ≡ b
and_true true = refl
and_true false = refl

and-false : (b : Bool) → (b && false) ≡ false
and-false true = refl
and-false false = refl

pub count_one_more : (p : ℤ → Bool) (l : ℤ) (cl : Clause) → In l cl → p l ≡ true → count p (distinct cl) ≡ suc (count (without p l) (distinct cl))
count_one_more p l cl i t =
    let h : holds l cl ≡ true = any_complete (eqz l) i (eqz_refl l) in
    rw h at
    (count_more (without p l) p l (rw (eqz_refl l) (and-false (p l))) t cl (λ k j n. rw (eqz_other l k (λ e. n (sym e))) (and_true (p k))))

count_pos : (p : ℤ → Bool) (l : ℤ) (cl : Clause) → In l cl → p l ≡ true → 1 ≤ count p (distinct cl)
count_pos p l cl i t = omega (arith, count_one_more p l cl i t)

count_two : (p : ℤ → Bool) (k l : ℤ) (cl : Clause) → In k cl → In l cl → p k ≡ true → p l ≡ true → eqz k l ≡ false → 2 ≤ count p (distinct cl)
count_two p k l cl i j t u d = omega (arith, count_one_more p k cl i t, count_pos (without p k) l cl j (rw (u, d)))

-- ---- the state by the key

module _ (vs : Values) (cl : Clause) where
  true_pos : any (is_true vs) cl ≡ true → 1 ≤ true_count vs cl
  unfolding true_count
  true_pos t = let (k, i, e) = any_sound (is_true vs) cl t in count_pos (is_true vs) k cl i e

  none_true : any (is_true vs) cl ≡ false → true_count vs cl ≡ 0
  unfolding true_count
  none_true n = count_none (is_true vs) cl (λ k i. none_of_any (is_true vs) n i)

  unset_pos : (k : ℤ) → In k cl → is_unset vs k ≡ true → 1 ≤ unset_count vs cl
  unfolding unset_count
  unset_pos k i u = count_pos (is_unset vs) k cl i u

  unset_two : (k l : ℤ) → In k cl → In l cl → is_unset vs k ≡ true → is_unset vs l ≡ true → eqz k l ≡ false → 2 ≤ unset_count vs cl
  unfolding unset_count
  unset_two k l i j t u d = count_two (is_unset vs) k l cl i j t u d

  none_unset : ((k : ℤ) → In k cl → is_unset vs k ≡ false) → unset_count vs cl ≡ 0
  unfolding unset_count
  none_unset h = count_none (is_unset vs) cl h

  one_unset : (l : ℤ) → is_unset vs l ≡ true → ((k : ℤ) → In k cl → is_unset vs k ≡ true → k ≡ l) → unset_count vs cl ≤ 1
  unfolding unset_count
  one_unset l u only =
      go (holds l cl)
      (count_more (λ k. false) (is_unset vs) l refl u cl (λ k i n. sym (not-true (is_unset vs k) (λ t. n (only k i t)))))
      (count_none (λ k. false) cl (λ k i. refl))
    where
      go : (b : Bool) → count (is_unset vs) (distinct cl) ≡ count_if b (count (λ k. false) (distinct cl)) → count (λ k. false) (distinct cl) ≡ 0
          → count (is_unset vs) (distinct cl) ≤ 1
      go true e z = omega arith
      go false e z = omega arith

  pub hot_false : key_of vs cl ≡ 0 → state_of vs cl ≡ False
  unfolding key_of
  hot_false e = go (state_of vs cl) (means vs cl)
    where
      go : (s : ClauseState) → Means vs cl s → s ≡ False
      go False m = refl
      go (Unit l) m = absurd (omega (arith, unset_pos l.0 m.is-in m.unset))
      go True m = absurd (omega (arith, true_pos m))
      go Undecided m = absurd (omega (arith, unset_pos m.one m.one_in m.one_unset))

  -- the first unset literal is an unset one of the clause
  first_is : (l : Lit) → first_unset vs cl ≡ Some l → In l.0 cl × (is_unset vs l.0 ≡ true)
  first_is l e = go (keep (is_unset vs) cl) e (λ k i. keep_sound (is_unset vs) cl i)
    where
      go : (us : List ℤ) → first_in us ≡ Some l → ((k : ℤ) → In k us → In k cl × (is_unset vs k ≡ true)) → In l.0 cl × (is_unset vs l.0 ≡ true)
      go [] e h = apart cc
      go (k ∷ us) e h = let t : l.0 ≡ k = cc in rw t (h k (Memᴰ.head refl))

  pub hot_unit : 1 ≡ key_of vs cl → (l : Lit) → first_unset vs cl ≡ Some l → state_of vs cl ≡ Unit l
  unfolding key_of
  hot_unit e l f = go (state_of vs cl) (means vs cl)
    where
      go : (s : ClauseState) → Means vs cl s → s ≡ Unit l
      go False m = absurd (omega (arith, none_true m.none_true, none_unset m.none_unset))
      go (Unit k) m = let (i, u) = first_is l f in ap (λ (x : ℤ). Unit (literal x)) (sym (m.only l.0 i u))
      go True m = absurd (omega (arith, true_pos m))
      go Undecided m = absurd (omega (arith, unset_two m.one m.two m.one_in m.two_in m.one_unset m.two_unset m.differ))

  pub hot_some : 1 ≡ key_of vs cl → first_unset vs cl ≡ None → ⊥
  unfolding key_of
  hot_some e f = go (state_of vs cl) (means vs cl)
    where
      some : (k : ℤ) → In k cl → is_unset vs k ≡ true → ⊥
      some k i u = at (keep (is_unset vs) cl) f (keep_complete (is_unset vs) i u)
        where
          at : (us : List ℤ) → first_in us ≡ None → In k us → ⊥
          at [] e j = Memᴰ.not-nil j
          at (x ∷ us) e j = apart cc

      go : (s : ClauseState) → Means vs cl s → ⊥
      go False m = omega (arith, none_true m.none_true, none_unset m.none_unset)
      go (Unit k) m = some k.0 m.is-in m.unset
      go True m = omega (arith, true_pos m)
      go Undecided m = some m.one m.one_in m.one_unset

  pub cold_calm : is_hot (key_of vs cl) ≡ false → Calm (state_of vs cl)
  unfolding key_of
  cold_calm c = go (state_of vs cl) (means vs cl) (leb-false (key_of vs cl) 1 c)
    where
      go : (s : ClauseState) → Means vs cl s → 1 < key_of vs cl → Calm s
      go False m h = absurd (omega (arith, none_true m.none_true, none_unset m.none_unset))
      go (Unit l) m h = absurd (omega (arith, none_true m.none_true, one_unset l.0 m.unset m.only))
      go True m h = tt
      go Undecided m h = tt

-- ---- a round

calm_met : (s : ClauseState) (vs : Values) (k : ℕ) → Calm s → met s vs k ≡ under_way vs k
calm_met False vs k c = absurd c
calm_met (Unit l) vs k c = absurd c
calm_met True vs k c = refl
calm_met Undecided vs k c = refl

pub get_d_keys : (f : Clause → ℕ) (F : List Clause) (n : ℕ) → n < length F → get_or (map f F) n 0 ≡ f (get_or F n [])
get_d_keys f [] n h = absurd (omega arith)
get_d_keys f (cl ∷ F) zero h = refl
get_d_keys f (cl ∷ F) (suc n) h = get_d_keys f F n (omega arith)

-- from n on d clauses are cold
round_cold : (vs : Values) (k : ℕ) (F : List Clause) (d n : ℕ) → n + d ≤ length F
    → ((i : ℕ) → n ≤ i → i < n + d → is_hot (key_of vs (get_or F i [])) ≡ false)
    → round (drop n F) (under_way vs k) ≡ round (drop (n + d) F) (under_way vs k)
round_cold vs k F zero n h c = rw (add-zero n)
round_cold vs k F (suc d) n h c =
    let e : n + suc d ≡ suc n + d = omega arith in
    rw (e, drop-cons F n [] (omega arith))
    (ap (round (drop (suc n) F)) (calm_met (state_of vs (get_or F n [])) vs k (cold_calm vs (get_or F n []) (c n (omega arith) (omega arith)))) ∙
    round_cold vs k F d (suc n) (omega arith) (λ i a b. c i (omega arith) (omega arith)))

-- up to m no clause is hot
pub rounding_cold : {F : List Clause} {from : Values} {n : ℕ} {vs : Values} {k : ℕ} (m : ℕ) → n ≤ m → m ≤ length F
    → ((i : ℕ) → n ≤ i → i < m → is_hot (key_of vs (get_or F i [])) ≡ false) → Rounding F from n vs k → Rounding F from m vs k
rounding_cold {F} {from} {n} {vs} {k} m h g c w =
    let far : n + (m - n) ≡ m = omega arith in
    record {
      passed = g;
      few = omega (arith, w.few);
      len = w.len;
      same = sym (rw far at (round_cold vs k F (m - n) n (omega arith) (λ i a b. c i a (omega arith)))) ∙ w.same;
    }
