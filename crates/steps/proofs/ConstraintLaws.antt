-- The laws of specs/Constraint: the literal of a candidate, negated; and putting one index after the other is putting the lowest.
--
--   var_of_false               its variable
--   Putting, putting_start, putting_step, putting_done     the loop of `put_constraint`
--
-- Assumes nothing.
use mathlib.Core.Path.{◌≡◌, refl, sym, ◌∙◌, ap}
use mathlib.Core.Logic.{◌≢◌}
use mathlib.Core.List.{List, [], ◌∷◌, ◌++◌, append-nil}
use Prim.Native.Nat.{ℕ, zero, suc, ◌+◌, ◌-◌, ◌≤◌, ◌<◌}
use native.Mathlib.Omega.{arith}
use native.Mathlib.Numerals.{add-one}
use lib.IntN.{ℤ}
use lib.ListN.{length, get_or, set, take, drop, length-set, length-take, length-map, drop_of_length-le}
use lib.Seq.{take-nil, drop-cons, take-suc-set, drop-set-lt, append_snoc}
use Rattle.rules.specs.Meaning.{var_of, negated}
use Rattle.rules.specs.Run.{opens, literal_at, candidates_from, constraint}
use Rattle.rules.proofs.StatusLaws.{length_candidates}
use Rattle.steps.specs.Constraint.{PutsAt, candidate, full, settled, ConstraintPut}

-- ---- one literal

pub var_of_false : (i b : ℕ) → var_of (negated (literal_at i b)) ≡ suc i
var_of_false i zero = refl
var_of_false i (suc zero) = refl
var_of_false i (suc (suc b)) = refl

-- ---- the candidates from an index on

unfoldable pub from : ℕ → List ℕ → List ℕ → List ℤ
from i first status = candidates_from i (drop i first) (drop i status)

from_open : (i : ℕ) (first status : List ℕ) → i < length first → i < length status → get_or status i 0 ≡ 0
    → from i first status ≡ literal_at i (get_or first i 0) ∷ from (suc i) first status
unfolding from
from_open i first status h k z = rw (drop-cons first i 0 h, drop-cons status i 0 k, z)

from_settled : (i : ℕ) (first status : List ℕ) → i < length first → i < length status → get_or status i 0 ≢ 0 → from i first status ≡ from (suc i) first status
unfolding from
from_settled i first status h k n = rw (drop-cons first i 0 h, drop-cons status i 0 k) (skip (get_or status i 0) n)
  where
    skip : (s : ℕ) → s ≢ 0 → candidates_from i (get_or first i 0 ∷ drop (suc i) first) (s ∷ drop (suc i) status)
        ≡ candidates_from (suc i) (drop (suc i) first) (drop (suc i) status)
    skip zero n = absurd (n refl)
    skip (suc s) n = refl

-- ---- the loop: what is put, and what is still to put

pub record Putting (first status : List ℕ) (chunk : ℕ) (before : List ℤ) (k i : ℕ) (now : List ℤ) : Type 0 where
  pub within : i ≤ length status
  pub room : k ≤ chunk
  pub len : length now ≡ length before
  pub todo : take k now ++ constraint (take (chunk - k) (from i first status)) ≡ constraint (take chunk (candidates_from 0 first status))
  pub rest : drop chunk now ≡ drop chunk before

pub putting_start : (first status : List ℕ) (chunk : ℕ) (out : List ℤ) → Putting first status chunk out 0 0 out
unfolding from
putting_start first status chunk out =
    let e : chunk - 0 ≡ chunk = omega arith in
    record { within = omega arith; room = omega arith; len = refl; todo = ap (λ (n : ℕ). constraint (take n (candidates_from 0 first status))) e; rest = refl }

pub putting_step : {first status : List ℕ} {chunk k i r : ℕ} {before now after : List ℤ} → length first ≡ length status → chunk ≤ length now
    → Putting first status chunk before k i now → i < length status → PutsAt i first status chunk k now r after
    → Putting first status chunk before r (i + 1) after
putting_step {first} {status} {chunk} {k} {i} {r} {before} {now} {after} e c w h (candidate z l) =
    record {
      within = omega arith;
      room = omega arith;
      len = length-set now k x ∙ w.len;
      todo = rw (add-one k, add-one i) (step ∙ w.todo);
      rest = drop-set-lt chunk now k x l ∙ w.rest;
    }
  where
    l₀ : ℤ
    l₀ = literal_at i (get_or first i 0)

    x : ℤ
    x = negated l₀

    left : constraint (take (chunk - k) (from i first status)) ≡ x ∷ constraint (take (chunk - suc k) (from (suc i) first status))
    left =
        ap constraint (ap (take (chunk - k)) (from_open i first status (omega arith) h z)
        ∙ ap (λ (n : ℕ). take n (l₀ ∷ from (suc i) first status)) (more chunk k l))
      where
        more : (chunk k : ℕ) → k < chunk → chunk - k ≡ suc (chunk - suc k)
        more chunk k l = omega arith

    step : take (suc k) (set now k x) ++ constraint (take (chunk - suc k) (from (suc i) first status))
        ≡ take k now ++ constraint (take (chunk - k) (from i first status))
    step =
        ap (λ (xs : List ℤ). xs ++ constraint (take (chunk - suc k) (from (suc i) first status))) (take-suc-set now k x (omega arith)) ∙
        append_snoc (take k now) x (constraint (take (chunk - suc k) (from (suc i) first status))) ∙
        ap (λ (xs : List ℤ). take k now ++ xs) (sym left)
putting_step {first} {status} {chunk} {k} {i} {r} {before} {now} {after} e c w h (full l) =
    record { within = omega arith; room = w.room; len = w.len; todo = none (i + 1) ∙ sym (none i) ∙ w.todo; rest = w.rest }
  where
    none : (j : ℕ) → take k now ++ constraint (take (chunk - k) (from j first status)) ≡ take k now ++ []
    none j =
        let e : chunk - k ≡ 0 = omega (arith, w.room) in
        ap (λ (n : ℕ). take k now ++ constraint (take n (from j first status))) e
putting_step {first} {status} {chunk} {k} {i} {r} {before} {now} {after} e c w h (settled n) =
    record {
      within = omega arith;
      room = w.room;
      len = w.len;
      todo = rw (add-one, ← from_settled i first status (omega arith) h n) w.todo;
      rest = w.rest;
    }

pub putting_done : {first status : List ℕ} {chunk k i : ℕ} {before now : List ℤ} → length first ≡ length status → chunk ≤ opens status
    → chunk ≤ length now → Putting first status chunk before k i now → length status ≤ i → ConstraintPut first status chunk before now
unfolding from
putting_done {first} {status} {chunk} {k} {i} {before} {now} e o c w h =
    record { front = rw (sym full_up) at put; rest = w.rest }
  where
    no_more : from i first status ≡ []
    no_more = ap (λ (xs : List ℕ). candidates_from i xs (drop i status)) (drop_of_length-le first {i = i} (omega arith))

    put : take k now ≡ constraint (take chunk (candidates_from 0 first status))
    put =
        sym (append-nil (take k now)) ∙ ap (λ (xs : List ℤ). take k now ++ constraint xs)
        (sym (take-nil (chunk - k)) ∙ ap (take (chunk - k)) (sym no_more)) ∙ w.todo

    full_up : chunk ≡ k
    full_up =
        omega (
          arith,
          w.room,
          ap length put,
          length-take k now,
          length-map (take chunk (candidates_from 0 first status)) negated,
          length-take chunk (candidates_from 0 first status),
          length_candidates 0 first status e,
        )
