-- The laws of specs/Chunk: forcing one index after the other is forcing the lowest, and the values forced so far.
--
--   forced_values_read     an element of the forced values, as code reads it
--   Forcing, forcing_step, forcing_done     the loop of `force_first`
--
-- Assumes nothing.
use mathlib.Core.Path.{◌≡◌, refl, sym, ◌∙◌, ap}
use mathlib.Core.List.{List, [], ◌∷◌}
use Prim.Native.Nat.{ℕ, zero, suc, ◌+◌, ◌≤◌, ◌<◌}
use native.Mathlib.Omega.{arith}
use native.Mathlib.Numerals.{add-one}
use lib.ListN.{length, get_or, set, length-set}
use Rattle.rules.specs.Run.{force_first, forced_value, forced_values}
use Rattle.steps.specs.Chunk.{status_forced, left_forced, ForcesAt}

-- ---- by ranges

pub forced_values_read : (ss : List ℕ) (i : ℕ) → get_or (forced_values ss) i 0 ≡ forced_value (get_or ss i 0)
forced_values_read [] i = refl
forced_values_read (s ∷ ss) zero = refl
forced_values_read (s ∷ ss) (suc i) = forced_values_read ss i

-- ---- forcing from index n on

abbrev behind : ℕ → List ℕ → List ℕ → ℕ → List ℕ
behind zero m ss left = force_first m ss left
behind (suc n) [] ss left = ss
behind (suc n) (b ∷ m) [] left = []
behind (suc n) (b ∷ m) (s ∷ ss) left = s ∷ behind n m ss left

force_first_none : (m ss : List ℕ) → force_first m ss 0 ≡ ss
force_first_none [] ss = refl
force_first_none (b ∷ m) [] = refl
force_first_none (b ∷ m) (zero ∷ ss) = refl
force_first_none (b ∷ m) (suc s ∷ ss) = ap (λ (ts : List ℕ). suc s ∷ ts) (force_first_none m ss)

behind_head : (b s left : ℕ) (m ss : List ℕ) → status_forced s left b ∷ force_first m ss (left_forced s left) ≡ force_first (b ∷ m) (s ∷ ss) left
behind_head b zero zero m ss = ap (λ (ts : List ℕ). 0 ∷ ts) (force_first_none m ss)
behind_head b zero (suc left) m ss = refl
behind_head b (suc s) left m ss = refl

behind_step : (n : ℕ) (m ss : List ℕ) (left : ℕ) → n < length m → n < length ss
    → behind (suc n) m (set ss n (status_forced (get_or ss n 0) left (get_or m n 0))) (left_forced (get_or ss n 0) left) ≡ behind n m ss left
behind_step n [] ss left h k = absurd (omega arith)
behind_step n (b ∷ m) [] left h k = absurd (omega arith)
behind_step zero (b ∷ m) (s ∷ ss) left h k = behind_head b s left m ss
behind_step (suc n) (b ∷ m) (s ∷ ss) left h k =
    ap (λ (ts : List ℕ). s ∷ ts) (behind_step n m ss left (omega arith) (omega arith))

behind_done : (n : ℕ) (m ss : List ℕ) (left : ℕ) → length m ≡ length ss → length ss ≤ n → behind n m ss left ≡ ss
behind_done zero [] [] left e h = refl
behind_done zero [] (s ∷ ss) left e h = absurd (omega arith)
behind_done zero (b ∷ m) ss left e h = absurd (omega arith)
behind_done (suc n) [] ss left e h = refl
behind_done (suc n) (b ∷ m) [] left e h = refl
behind_done (suc n) (b ∷ m) (s ∷ ss) left e h =
    ap (λ (ts : List ℕ). s ∷ ts) (behind_done n m ss left (omega arith) (omega arith))

-- ---- the loop: what is left to force

pub record Forcing (first before : List ℕ) (chunk left i : ℕ) (now : List ℕ) : Type 0 where
  pub within : i ≤ length now
  pub len : length now ≡ length before
  pub todo : behind i first now left ≡ force_first first before chunk

pub forcing_step : {first before now after : List ℕ} {chunk left r i : ℕ} → length first ≡ length before → Forcing first before chunk left i now
    → i < length now → ForcesAt i first left now r after → Forcing first before chunk r (i + 1) after
forcing_step {first} {before} {now} {after} {chunk} {left} {r} {i} e w h f =
    let len : length after ≡ length now = ap length f.status_is ∙ length-set now i (status_forced (get_or now i 0) left (get_or first i 0)) in
    record {
      within = omega arith;
      len = len ∙ w.len;
      todo = rw (add-one, f.status_is, f.left_is) (behind_step i first now left (omega (arith, w.len)) h ∙ w.todo);
    }

pub forcing_done : {first before now : List ℕ} {chunk left i : ℕ} → length first ≡ length before → Forcing first before chunk left i now
    → length now ≤ i → now ≡ force_first first before chunk
forcing_done {first} {before} {now} {chunk} {left} {i} e w h =
    sym (behind_done i first now left (omega (arith, w.len)) h) ∙ w.todo
