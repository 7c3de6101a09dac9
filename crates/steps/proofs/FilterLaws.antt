-- The laws of specs/Filter: freeing one index after the other is freeing them all.
--
--   opens-set         one open variable that is freed is one open variable less
--   drops_open     one index: open and passing, not open, not passing
--   Filtering, filtering_step, filtering_done     the loop of compare and of flip
--
-- Assumes nothing.
use mathlib.Core.Path.{◌≡◌, refl, sym, ◌∙◌, ap}
use mathlib.Core.Bool.{Bool, true, not}
use mathlib.Core.List.{List, [], ◌∷◌}
use Prim.Native.Nat.{ℕ, zero, suc, ◌+◌, ◌≤◌, ◌<◌}
use native.Mathlib.Omega.{arith}
use native.Mathlib.Nat.{add-zero, add-suc, suc-add, zero-add}
use native.Mathlib.Numerals.{add-one}
use lib.Dec.{eqb}
use lib.ListN.{length, get_or, set, length-set}
use Rattle.rules.specs.Run.{opens, freed_if, freed_from, differs}
use Rattle.rules.proofs.ListLaws.{get_d_default}
use Rattle.steps.specs.Filter.{DropsAt, Drops}

pub opens-set : (ss : List ℕ) (i : ℕ) → i < length ss → get_or ss i 0 ≡ 0 → opens (set ss i 1) + 1 ≡ opens ss
opens-set [] i h z = absurd (omega arith)
opens-set (s ∷ ss) zero h z = rw z (omega arith)
opens-set (zero ∷ ss) (suc i) h z = omega (arith, opens-set ss i (omega arith) z)
opens-set (suc s ∷ ss) (suc i) h z = opens-set ss i (omega arith) z

-- ---- one index

pub drops_open : (ss : List ℕ) (i : ℕ) (b : Bool) → i < length ss → b ≡ true → get_or ss i 0 ≡ 0 → DropsAt i b ss 1 (set ss i 1)
drops_open ss i b h e z = record { freed = rw (e, z); counted = opens-set ss i h z }

-- ---- freeing from index n on

abbrev behind : (ℕ → Bool) → ℕ → ℕ → List ℕ → List ℕ
behind p j zero ss = freed_from j p ss
behind p j (suc n) [] = []
behind p j (suc n) (s ∷ ss) = s ∷ behind p (suc j) n ss

behind_step : (p : ℕ → Bool) (j n : ℕ) (ss : List ℕ) → n < length ss → behind p j (suc n) (set ss n (freed_if (p (j + n)) (get_or ss n 0))) ≡ behind p j n ss
behind_step p j n [] h = absurd (omega arith)
behind_step p j zero (s ∷ ss) h = rw add-zero
behind_step p j (suc n) (s ∷ ss) h =
    rw (add-suc, ← suc-add) (ap (λ (ts : List ℕ). s ∷ ts) (behind_step p (suc j) n ss (omega arith)))

behind_done : (p : ℕ → Bool) (j n : ℕ) (ss : List ℕ) → length ss ≤ n → behind p j n ss ≡ ss
behind_done p j zero [] h = refl
behind_done p j zero (s ∷ ss) h = absurd (omega arith)
behind_done p j (suc n) [] h = refl
behind_done p j (suc n) (s ∷ ss) h = ap (λ (ts : List ℕ). s ∷ ts) (behind_done p (suc j) n ss (omega arith))

-- ---- the loop: what is left to free, and what was dropped so far

pub record Filtering (p : ℕ → Bool) (before : List ℕ) (dropped i : ℕ) (now : List ℕ) : Type 0 where
  pub within : i ≤ length now
  pub len : length now ≡ length before
  pub left : behind p 0 i now ≡ freed_from 0 p before
  pub counted : opens now + dropped ≡ opens before

pub filtering_step : {p : ℕ → Bool} {before now after : List ℕ} {dropped i r : ℕ} (b : Bool) → Filtering p before dropped i now → i < length now
    → p i ≡ b → DropsAt i b now r after → Filtering p before (dropped + r) (i + 1) after
filtering_step {p} {before} {now} {after} {dropped} {i} b w h e d =
    let len : length after ≡ length now = ap length d.freed ∙ length-set now i (freed_if b (get_or now i 0)) in
    record {
      within = omega arith;
      len = len ∙ w.len;
      left = rw (add-one, d.freed, ← e) (step ∙ w.left);
      counted = omega (arith, d.counted, w.counted);
    }
  where
    step : behind p 0 (suc i) (set now i (freed_if (p i) (get_or now i 0))) ≡ behind p 0 i now
    step = rw zero-add at (behind_step p 0 i now h)

pub filtering_done : {p : ℕ → Bool} {before now : List ℕ} {dropped i : ℕ} → Filtering p before dropped i now → length now ≤ i → Drops p before dropped now
filtering_done {p} {before} {now} {dropped} {i} w h =
    record { freed = sym (behind_done p 0 i now h) ∙ w.left; counted = w.counted }

-- ---- the test of compare, as code reads it

pub differs_read : (first m : List ℕ) (i : ℕ) → i < length first → i < length m → differs first m i ≡ not (eqb (get_or m i 0) (get_or first i 0))
differs_read first m i h k = rw (get_d_default first i 0 1 h, get_d_default m i 0 1 k)
