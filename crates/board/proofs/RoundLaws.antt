-- A round clause by clause, as an invariant: what is left of the round, from the values as they are, comes to what the whole round
-- comes to from those at the start.
--
--   Rounding                      n clauses visited, k literals set
--   Looked                        and the next one looked up
--   rounding_start, rounding_false, rounding_unit, rounding_true, rounding_undecided, rounding_done     the invariant begins, goes on, pays off
--   unit_up_to                    the literal of a unit is of a variable from 1 to n
--
-- Assumes nothing.
use mathlib.Core.Path.{◌≡◌, refl, sym, ◌∙◌, ap}
use mathlib.Core.List.{List, [], ◌∷◌}
use Prim.Native.Nat.{ℕ, suc, ◌+◌, ◌<◌, ◌≤◌}
use native.Mathlib.Omega.{arith}
use native.Mathlib.Numerals.{add-one}
use lib.ListN.{get_or, length, drop, length-set, drop_of_length-le}
use lib.Seq.{drop-cons}
use Rattle.rules.specs.declared.Lit.{Lit}
use Rattle.rules.specs.declared.ClauseState.{ClauseState}
use Rattle.rules.specs.declared.ClauseState.TheVariants.{False, Unit, True, Undecided}
use Rattle.rules.specs.Meaning.{Clause, Values, LitUpTo, index_of, true_byte, assign}
use Rattle.rules.specs.Closing.{state_of, under_way, at_false, met, round}
use Rattle.rules.proofs.StateLaws.{Means, means}
use Rattle.rules.proofs.ClosingLaws.{round_at_false}
use Rattle.formula.specs.Clauses.{ClauseUpTo}

pub unit_up_to : (n : ℕ) (vs : Values) (cl : Clause) (l : Lit) → ClauseUpTo n cl → state_of vs cl ≡ Unit l → LitUpTo n l.0
unit_up_to n vs cl l u e = let m : Means vs cl (Unit l) = rw e at (means vs cl) in u.each l.0 m.is-in

pub record Rounding (F : List Clause) (from : Values) (n : ℕ) (vs : Values) (k : ℕ) : Type 0 where
  pub passed : n ≤ length F
  pub few : k ≤ n
  pub len : length vs ≡ length from
  pub same : round (drop n F) (under_way vs k) ≡ round F (under_way from 0)

pub rounding_start : (F : List Clause) (from : Values) → Rounding F from 0 from 0
rounding_start F from = record { passed = omega arith; few = omega arith; len = refl; same = refl }

-- the next clause of the round is looked up
pub record Looked (F : List Clause) (from : Values) (n : ℕ) (vs : Values) (k : ℕ) (cl : Clause) : Type 0 where
  pub within : n < length F
  pub here : get_or F n [] ≡ cl
  pub so_far : Rounding F from n vs k

module _ {F : List Clause} {from : Values} {n : ℕ} {vs : Values} {k : ℕ} {cl : Clause} (w : Looked F from n vs k cl) where
  visited : {s : ClauseState} → state_of vs cl ≡ s → round (drop (suc n) F) (met s vs k) ≡ round F (under_way from 0)
  visited e =
      let d : drop n F ≡ cl ∷ drop (suc n) F = drop-cons F n [] w.within ∙ ap (λ (c : Clause). c ∷ drop (suc n) F) w.here in
      ap (λ (s : ClauseState). round (drop (suc n) F) (met s vs k)) (sym e) ∙ rw d at w.so_far.same

  pub rounding_false : state_of vs cl ≡ False → round F (under_way from 0) ≡ at_false
  rounding_false e = sym (visited e) ∙ round_at_false (drop (suc n) F)

  pub rounding_unit : (l : Lit) → state_of vs cl ≡ Unit l → Rounding F from (n + 1) (assign vs l.0) (k + 1)
  rounding_unit l e =
      record {
        passed = omega (arith, w.within);
        few = omega (arith, w.so_far.few);
        len = length-set vs (index_of l.0) (true_byte l.0) ∙ w.so_far.len;
        same = rw (add-one n, add-one k) (visited e);
      }

  calm : round (drop (suc n) F) (under_way vs k) ≡ round F (under_way from 0) → Rounding F from (n + 1) vs k
  calm e = record { passed = omega (arith, w.within); few = omega (arith, w.so_far.few); len = w.so_far.len; same = rw (add-one n) e }

  pub rounding_true : state_of vs cl ≡ True → Rounding F from (n + 1) vs k
  rounding_true e = calm (visited e)

  pub rounding_undecided : state_of vs cl ≡ Undecided → Rounding F from (n + 1) vs k
  rounding_undecided e = calm (visited e)

pub rounding_done : (F : List Clause) (from : Values) (n : ℕ) (vs : Values) (k : ℕ) → length F ≤ n → Rounding F from n vs k
    → round F (under_way from 0) ≡ under_way vs k
rounding_done F from n vs k h w = sym w.same ∙ ap (λ (cls : List Clause). round cls (under_way vs k)) (drop_of_length-le F h)
