-- The laws of the first false clause (rules/specs/Meaning): the loop of `first_false`.
--
--   Looked, looked_start, looked_step, looked_stop, looked_done     the clauses so far have a true literal each
--   looked_next, looked_found     the same by the number of the clause that is looked at
--
-- Assumes nothing.
use mathlib.Core.Path.{◌≡◌, refl, sym, ◌∙◌, ap}
use mathlib.Core.Bool.{true, false}
use mathlib.Core.List.{List, []}
use mathlib.Core.Option.{none, some}
use Prim.Native.Nat.{ℕ, suc, ◌+◌, ◌-◌, ◌≤◌, ◌<◌}
use native.Mathlib.Omega.{arith}
use native.Mathlib.Numerals.{add-one}
use lib.ListN.{get_or, length, drop, drop_of_length-le}
use lib.Seq.{drop-cons}
use Rattle.rules.specs.Meaning.{Clause, Values, has_true, first_false_from, first_false}

-- ---- the loop

-- the first k clauses have a true literal each: what is found is found behind them
pub record Looked (vs : Values) (F : List Clause) (k : ℕ) : Type 0 where
  pub within : k ≤ length F
  pub behind : first_false_from (suc k) vs (drop k F) ≡ first_false vs F

pub looked_start : (vs : Values) (F : List Clause) → Looked vs F 0
looked_start vs F = record { within = omega arith; behind = refl }

module _ {vs : Values} {F : List Clause} {k : ℕ} (w : Looked vs F k) (h : k < length F) where
  pub looked_step : has_true vs (get_or F k []) ≡ true → Looked vs F (k + 1)
  looked_step e = record { within = omega arith; behind = rw (add-one, sym step) w.behind }
    where
      step : first_false_from (suc k) vs (drop k F) ≡ first_false_from (suc (suc k)) vs (drop (suc k) F)
      step = rw (drop-cons F k [] h, e)

  pub looked_stop : has_true vs (get_or F k []) ≡ false → some (k + 1) ≡ first_false vs F
  looked_stop e = rw (add-one, ← w.behind, drop-cons F k [] h, e)

-- the same by the clause's number n, from 1
module _ {vs : Values} {F : List Clause} (n : ℕ) (some_n : 1 ≤ n) (w : Looked vs F (n - 1)) (h : n - 1 < length F) where
  pub looked_next : has_true vs (get_or F (n - 1) []) ≡ true → Looked vs F (n + 1 - 1)
  looked_next e = let q : n + 1 - 1 ≡ n - 1 + 1 = omega arith in rw q (looked_step w h e)

  pub looked_found : has_true vs (get_or F (n - 1) []) ≡ false → some n ≡ first_false vs F
  looked_found e = let q : n - 1 + 1 ≡ n = omega arith in ap some (sym q) ∙ looked_stop w h e

pub looked_done : {vs : Values} {F : List Clause} {k : ℕ} → Looked vs F k → length F ≤ k → none ≡ first_false vs F
looked_done {F = F} {k = k} w h = rw (← w.behind, drop_of_length-le F {i = k} h)
