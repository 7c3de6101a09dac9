-- Closing round by round, as an invariant: closing from the values as they are comes to what closing from those at the start comes to,
-- and takes as many rounds less as were made.
--
--   Closings, closings_start      n rounds have led from the values at the start to these
--   closings_asks, closings_few   one more can be made, and counted
--   closings_false, closings_still, closings_again, closings_falls     by what it ends with
--
-- Assumes nothing.
use mathlib.Core.Path.{◌≡◌, refl, sym, ◌∙◌, ap}
use mathlib.Core.Logic.{◌≢◌}
use mathlib.Core.List.{List}
use Prim.Native.Nat.{ℕ, zero, suc, ◌+◌, ◌≤◌, ◌<◌, ◌^◌}
use native.Mathlib.Omega.{arith}
use native.Mathlib.Nat.{zero-add}
use lib.IntN.{ℤ}
use lib.ListN.{length}
use Rattle.rules.specs.Meaning.{Clause, Values}
use Rattle.rules.specs.Closing.{Round, under_way, round, again, unsets, closing}
use Rattle.rules.specs.Rounds.{one_more, rounds}
use Rattle.rules.proofs.ClosingLaws.{Went, round_after, closing-next}
use Rattle.rules.proofs.RoundsLaws.{rounds-next}
use Rattle.formula.specs.Starts.{clauses_with, call_clauses}
use Rattle.std.specs.Prelude.{Option, Some, None}
use Rattle.board.specs.declared.close.Closing.TheVariants.{Clash, Closed}
use Rattle.board.specs.Boards.{Shows}
use Rattle.board.specs.Trails.{Leads}
use Rattle.board.specs.Closings.{BoardOver, round_of, RoundDone, CloseDone}
use Rattle.board.proofs.TrailLaws.{leads_refl, leads_trans}

pub record Closings (es : List ℤ) (con : Clause) (lists holders marks : List ℕ) (from : Values) (keys_from hot-from trail-from : List ℕ)
    (total n : ℕ) (vs : Values) (keys hot trail : List ℕ) : Type 0 where
  pub len : length vs ≡ length from
  pub same : closing (call_clauses es con total) vs ≡ closing (call_clauses es con total) from
  pub counted : rounds (call_clauses es con total) from ≡ n + rounds (call_clauses es con total) vs
  pub few : n + unsets vs ≤ unsets from
  pub shows : Shows (clauses_with es con) lists holders marks vs keys hot trail
  pub leads : Leads trail-from from trail vs

module _ {es : List ℤ} {starts : List ℕ} {con : Clause} {lists holders marks : List ℕ} {from : Values} {keys_from hot-from trail-from : List ℕ} {total : ℕ}
    (a : BoardOver es starts con lists holders marks from keys_from hot-from trail-from total) where
  pub closings_start : Closings es con lists holders marks from keys_from hot-from trail-from total 0 from keys_from hot-from trail-from
  closings_start =
      record {
        len = refl;
        same = refl;
        counted = sym (zero-add (rounds (call_clauses es con total) from));
        few = omega arith;
        shows = a.shows;
        leads = leads_refl;
      }

  module _ {n : ℕ} {vs : Values} {keys hot trail : List ℕ}
      (w : Closings es con lists holders marks from keys_from hot-from trail-from total n vs keys hot trail) where
    pub closings_asks : BoardOver es starts con lists holders marks vs keys hot trail total
    closings_asks = record { starts_are = a.starts_are; total_most = a.total_most; shows = w.shows }

    pub closings_few : n + 1 < 2 ^ 32
    closings_few = omega (arith, w.few, a.shows.counted, a.shows.small.vars_fit)

    module _ {r : Option ℕ} {vs2 : Values} {keys2 hot2 trail2 : List ℕ} (d : RoundDone es con lists holders marks vs trail total r vs2 keys2 hot2 trail2) where
      abbrev F : List Clause
      F = call_clauses es con total

      -- a round, and what closing and the count make of its end
      ended : {q : Option ℕ} → r ≡ q → round F (under_way vs 0) ≡ round_of q vs2
      ended e = d.round_is ∙ ap (λ (x : Option ℕ). round_of x vs2) e

      after_round : {q : Round} → round F (under_way vs 0) ≡ q → closing F from ≡ again q (λ ws. closing F ws)
      after_round e = sym w.same ∙ closing-next F vs ∙ ap (λ (x : Round). again x (λ ws. closing F ws)) e

      count_round : {q : Round} → round F (under_way vs 0) ≡ q → rounds F from ≡ n + one_more q (λ ws. rounds F ws)
      count_round e = w.counted ∙ ap (λ (x : ℕ). n + x) (rounds-next F vs ∙ ap (λ (x : Round). one_more x (λ ws. rounds F ws)) e)

      leads_on : Leads trail-from from trail2 vs2
      leads_on = leads_trans w.leads d.leads

      pub closings_false : r ≡ None → CloseDone es con lists holders marks from trail-from total (Clash (n + 1)) vs2 keys2 hot2 trail2
      closings_false e =
          record { end_is = after_round (ended e); rounds_are = count_round (ended e); shows = d.shows; leads = leads_on }

      pub closings_still : (k : ℕ) → r ≡ Some k → k ≡ 0 → CloseDone es con lists holders marks from trail-from total (Closed (n + 1)) vs2 keys2 hot2 trail2
      closings_still zero e z =
          record { end_is = after_round (ended e); rounds_are = count_round (ended e); shows = d.shows; leads = leads_on }
      closings_still (suc k) e z = absurd (omega arith)

      went : {k : ℕ} → r ≡ Some k → Went F vs 0 vs2 k
      went e = rw (ended e) at (round_after F vs 0)

      pub closings_falls : (k : ℕ) → r ≡ Some k → k ≢ 0 → unsets vs2 < unsets vs
      closings_falls zero e z = absurd (z refl)
      closings_falls (suc k) e z = omega (arith, (went e).counted)

      pub closings_again : (k : ℕ) → r ≡ Some k → k ≢ 0
          → Closings es con lists holders marks from keys_from hot-from trail-from total (n + 1) vs2 keys2 hot2 trail2
      closings_again zero e z = absurd (z refl)
      closings_again (suc k) e z =
          record {
            len = (went e).len ∙ w.len;
            same = sym (after_round (ended e));
            counted = omega (arith, count_round (ended e));
            few = omega (arith, w.few, (went e).counted);
            shows = d.shows;
            leads = leads_on;
          }
