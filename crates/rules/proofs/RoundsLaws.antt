-- The laws of specs/Rounds: how many rounds a closing takes, against the variables that it sets.
--
--   rounds_in_enough, rounds-next  the number without a bound: one round and, if it set anything, those of closing again
--   rounds_some, rounds_nil       at least one; with no clauses exactly one
--   RoundsWithin, rounds_within   at most one more than the variables set in that closing, also where it meets a false clause
--   rounds_closed, rounds_clash   the same, where its end is known
--   rounds_most                   at most one more than the variables unset at the start
--   count_set                     a variable is set or unset
--
-- Assumes nothing.
use mathlib.Core.Path.{◌≡◌, refl, sym, ◌∙◌, ap}
use mathlib.Core.List.{List, [], ◌∷◌}
use Prim.Native.Nat.{ℕ, zero, suc, ◌+◌, ◌≤◌}
use native.Mathlib.Omega.{arith}
use lib.ListN.{length}
use Rattle.rules.specs.declared.ClauseState.TheVariants.{Unit}
use Rattle.rules.specs.Lists.{is_set, count}
use Rattle.rules.specs.Meaning.{Clause, Values}
use Rattle.rules.specs.Closing.{Round, under_way, at_false, round, Closed, clash, closed, unsets, closing}
use Rattle.rules.specs.Visits.{Visits, start, unit}
use Rattle.rules.specs.Rounds.{one_more, rounds_in, rounds}
use Rattle.rules.proofs.MeaningLaws.{unsets-assign}
use Rattle.rules.proofs.ClosingLaws.{Means, means, Went, After, round_after, closing_rec}
use Rattle.rules.proofs.ClosingOrder.{FalseMet, VisitedBy, round_visited}

-- ---- the number without a bound

pub rounds_in_enough : (F : List Clause) (n : ℕ) (vs : Values) → unsets vs ≤ n → rounds_in n F vs ≡ rounds F vs
unfolding rounds_in rounds
rounds_in_enough F n vs h =
    closing_rec F (λ ws r. (k j : ℕ) → unsets ws ≤ k → unsets ws ≤ j → rounds_in k F ws ≡ rounds_in j F ws)
    (λ ws e k j a b. stop ws e k ∙ sym (stop ws e j)) (λ ws e q k j a b. still ws e k ∙ sym (still ws e j))
    (λ ws ds n e w r ih k j a b. on ws ds n e w ih k j a b) vs n (unsets vs) h (omega arith)
  where
    stop : (ws : Values) → round F (under_way ws 0) ≡ at_false → (k : ℕ) → rounds_in k F ws ≡ 1
    stop ws e zero = rw e
    stop ws e (suc k) = rw e

    still : (ws : Values) → round F (under_way ws 0) ≡ under_way ws 0 → (k : ℕ) → rounds_in k F ws ≡ 1
    still ws e zero = rw e
    still ws e (suc k) = rw e

    on : (ws ds : Values) (n : ℕ) → round F (under_way ws 0) ≡ under_way ds (suc n) → Went F ws 0 ds (suc n)
        → ((k j : ℕ) → unsets ds ≤ k → unsets ds ≤ j → rounds_in k F ds ≡ rounds_in j F ds) → (k j : ℕ) → unsets ws ≤ k
        → unsets ws ≤ j → rounds_in k F ws ≡ rounds_in j F ws
    on ws ds n e w ih zero j a b = absurd (omega (arith, w.counted))
    on ws ds n e w ih (suc k) zero a b = absurd (omega (arith, w.counted))
    on ws ds n e w ih (suc k) (suc j) a b = rw e (ap suc (ih k j (omega (arith, w.counted)) (omega (arith, w.counted))))

pub rounds-next : (F : List Clause) (vs : Values) → rounds F vs ≡ one_more (round F (under_way vs 0)) (λ ws. rounds F ws)
unfolding rounds_in
rounds-next F vs = sym (rounds_in_enough F (suc (unsets vs)) vs (omega arith)) ∙ go (round F (under_way vs 0)) (round_after F vs 0)
  where
    go : (r : Round) → After F vs 0 r → one_more r (λ ws. rounds_in (unsets vs) F ws) ≡ one_more r (λ ws. rounds F ws)
    go at_false w = refl
    go (under_way ws zero) w = refl
    go (under_way ws (suc n)) w = ap suc (rounds_in_enough F (unsets vs) ws (omega (arith, w.counted)))

module _ (F : List Clause) (vs : Values) where
  rounds_by : {r : Round} → round F (under_way vs 0) ≡ r → rounds F vs ≡ one_more r (λ ws. rounds F ws)
  rounds_by e = rounds-next F vs ∙ ap (λ (r : Round). one_more r (λ ws. rounds F ws)) e

  pub rounds_some : 1 ≤ rounds F vs
  rounds_some = rw (rounds-next F vs) (go (round F (under_way vs 0)))
    where
      go : (r : Round) → 1 ≤ one_more r (λ ws. rounds F ws)
      go at_false = omega arith
      go (under_way ws zero) = omega arith
      go (under_way ws (suc n)) = omega arith

pub rounds_nil : (vs : Values) → rounds [] vs ≡ 1
rounds_nil vs = rounds-next [] vs

-- ---- against the variables that are set

visits_fewer : {F : List Clause} {vs ws : Values} → Visits F vs ws → unsets ws ≤ unsets vs
visits_fewer start = omega arith
visits_fewer {F} {vs} (unit {ws = ws} cl l v i e) =
    let m : Means ws cl (Unit l) = rw e at (means ws cl) in
    omega (arith, visits_fewer v, unsets-assign ws l.0 m.unset)

-- at most one more than the variables set by the end: where it closes, or where visits meet a false clause
abbrev pub RoundsWithin : List Clause → Values → Closed → ℕ → Type 0
RoundsWithin F vs clash n = (w : FalseMet F vs) × (n + unsets w.values ≤ suc (unsets vs))
RoundsWithin F vs (closed ws) n = n + unsets ws ≤ suc (unsets vs)

visits_on : {F : List Clause} {vs ws ds : Values} → Visits F vs ws → Visits F ws ds → Visits F vs ds
visits_on v start = v
visits_on v (unit cl l w i e) = unit cl l (visits_on v w) i e

pub rounds_within : (F : List Clause) (vs : Values) → RoundsWithin F vs (closing F vs) (rounds F vs)
rounds_within F = closing_rec F (λ vs r. RoundsWithin F vs r (rounds F vs)) stop (λ vs e q. still vs e) on
  where
    by_round : (vs : Values) {r : Round} → round F (under_way vs 0) ≡ r → VisitedBy F vs r
    by_round vs e = rw e at (round_visited F vs F (λ cl i. i) (under_way vs 0) start)

    stop : (vs : Values) → round F (under_way vs 0) ≡ at_false → RoundsWithin F vs clash (rounds F vs)
    stop vs e = let w : FalseMet F vs = by_round vs e in (w, omega (arith, rounds_by F vs e, visits_fewer w.visits))

    still : (vs : Values) → round F (under_way vs 0) ≡ under_way vs 0 → RoundsWithin F vs (closed vs) (rounds F vs)
    still vs e = omega (arith, rounds_by F vs e)

    on : (vs ws : Values) (n : ℕ) → round F (under_way vs 0) ≡ under_way ws (suc n) → Went F vs 0 ws (suc n) → (r : Closed)
        → RoundsWithin F ws r (rounds F ws) → RoundsWithin F vs r (rounds F vs)
    on vs ws n e g clash (w, h) = (
      record {
        values = w.values;
        clause = w.clause;
        visits = visits_on (by_round vs e) w.visits;
        is-in = w.is-in;
        false_here = w.false_here;
      },
      omega (arith, rounds_by F vs e, g.counted),
    )
    on vs ws n e g (closed ds) h = omega (arith, rounds_by F vs e, g.counted)

module _ (F : List Clause) (vs : Values) where
  pub rounds_closed : (ws : Values) → closing F vs ≡ closed ws → rounds F vs + unsets ws ≤ suc (unsets vs)
  rounds_closed ws e = rw e at (rounds_within F vs)

  pub rounds_clash : closing F vs ≡ clash → RoundsWithin F vs clash (rounds F vs)
  rounds_clash e = rw e at (rounds_within F vs)

  pub rounds_most : rounds F vs ≤ suc (unsets vs)
  rounds_most = go (closing F vs) (rounds_within F vs)
    where
      go : (r : Closed) → RoundsWithin F vs r (rounds F vs) → rounds F vs ≤ suc (unsets vs)
      go clash (w, h) = omega arith
      go (closed ws) h = omega arith

pub count_set : (vs : Values) → count is_set vs + unsets vs ≡ length vs
count_set [] = refl
count_set (zero ∷ vs) = omega (arith, count_set vs)
count_set (suc b ∷ vs) = omega (arith, count_set vs)
