-- The laws of specs/Records: putting one record after the other is putting them all.
--
--   way_now_high       the way by the status, as code tests it
--   length-new_from, new_from_at    an element of a buffer then
--   Recording, recording_step, recording_done     the loop of `put_records`
--
-- Assumes nothing.
use mathlib.Core.Path.{◌≡◌, refl, sym, ◌∙◌, ap}
use mathlib.Core.Bool.{Bool, false}
use mathlib.Core.List.{List, [], ◌∷◌}
use Prim.Native.Nat.{ℕ, zero, suc, ◌+◌, ◌≤◌, ◌<◌}
use native.Mathlib.Omega.{arith}
use native.Mathlib.Nat.{add-zero, add-suc, suc-add, zero-add}
use lib.ListN.{length, get_or, set, length-set}
use lib.Seq.{set-get_or}
use Rattle.rules.specs.declared.Way.{Way}
use Rattle.rules.specs.Meaning.{Values}
use Rattle.buffers.proofs.FillLaws.{part, get_d_part, part_done, copied_more}
use Rattle.steps.specs.Records.{way_now, is_new, new_if, new_from, way_byte, RecordsAt, RecordsPut, RecordsOver}

-- ---- the way

pub way_now_high : (s : ℕ) (other : Bool) → 1 < s → way_now s other ≡ Way.Chunk
way_now_high zero other h = absurd (omega arith)
way_now_high (suc zero) other h = absurd (omega arith)
way_now_high (suc (suc s)) other h = refl

-- ---- one index

module _ (i call : ℕ) (first m : Values) (status calls ways : List ℕ) where
  stays : is_new (get_or status i 0) (get_or ways i 0) ≡ false → RecordsAt i call first m status calls ways calls ways
  stays n = record { calls_are = rw n (sym (set-get_or calls i 0)); ways_are = rw n (sym (set-get_or ways i 0)) }

-- ---- an element of a buffer

pub length-new_from : (j : ℕ) (new : ℕ → ℕ → ℕ) (ss ws xs : List ℕ) → length (new_from j new ss ws xs) ≡ length xs
length-new_from j new [] ws xs = refl
length-new_from j new (s ∷ ss) [] xs = refl
length-new_from j new (s ∷ ss) (w ∷ ws) [] = refl
length-new_from j new (s ∷ ss) (w ∷ ws) (x ∷ xs) = ap suc (length-new_from (suc j) new ss ws xs)

pub new_from_at : (j : ℕ) (new : ℕ → ℕ → ℕ) (ss ws xs : List ℕ) (i : ℕ) → length ss ≡ length xs → length ws ≡ length xs → i < length xs
    → get_or (new_from j new ss ws xs) i 0 ≡ new_if (is_new (get_or ss i 0) (get_or ws i 0)) (new (j + i) (get_or ss i 0)) (get_or xs i 0)
new_from_at j new ss ws [] i a b h = absurd (omega arith)
new_from_at j new [] ws (x ∷ xs) i a b h = absurd (omega arith)
new_from_at j new (s ∷ ss) [] (x ∷ xs) i a b h = absurd (omega arith)
new_from_at j new (s ∷ ss) (w ∷ ws) (x ∷ xs) zero a b h = rw add-zero
new_from_at j new (s ∷ ss) (w ∷ ws) (x ∷ xs) (suc i) a b h =
    rw (add-suc, ← suc-add) (new_from_at (suc j) new ss ws xs i (omega arith) (omega arith) (omega arith))

-- ---- the loop: the first i elements are new, the others as they were

pub record Recording (call : ℕ) (first m : Values) (status calls₀ ways₀ : List ℕ) (i : ℕ) (calls ways : List ℕ) : Type 0 where
  pub within : i ≤ length status
  pub calls_len : length calls ≡ length status
  pub ways_len : length ways ≡ length status
  pub calls_are : calls ≡ part (new_from 0 (λ j s. call) status ways₀ calls₀) calls₀ i
  pub ways_are : ways ≡ part (new_from 0 (way_byte first m) status ways₀ ways₀) ways₀ i

module _ {call : ℕ} {first m : Values} {status calls₀ ways₀ : List ℕ} (o : RecordsOver first m status calls₀ ways₀) where
  pub recording_step : {i : ℕ} {calls ways calls-after ways-after : List ℕ} → Recording call first m status calls₀ ways₀ i calls ways → i < length status
      → RecordsAt i call first m status calls ways calls-after ways-after → Recording call first m status calls₀ ways₀ (i + 1) calls-after ways-after
  recording_step {i} {calls} {ways} {calls-after} {ways-after} w h f =
      record {
        within = omega arith;
        calls_len = ap length f.calls_are ∙ length-set calls i _ ∙ w.calls_len;
        ways_len = ap length f.ways_are ∙ length-set ways i _ ∙ w.ways_len;
        calls_are =
            f.calls_are ∙
            rw (same_way, same_call)
            (ap (λ (x : ℕ). set calls i x) (sym (new_from_at 0 (λ j s. call) status ways₀ calls₀ i (sym o.calls_len) ways_as in_calls)) ∙
            rw w.calls_are (copied_more cs calls₀ i (omega (arith, length-new_from 0 (λ j s. call) status ways₀ calls₀)) in_calls));
        ways_are =
            f.ways_are ∙
            rw same_way
            (ap (λ (x : ℕ). set ways i x) (sym (new_from_at 0 (way_byte first m) status ways₀ ways₀ i (sym o.ways_len) refl in_ways ∙ rw zero-add)) ∙
            rw w.ways_are (copied_more ws ways₀ i (omega (arith, length-new_from 0 (way_byte first m) status ways₀ ways₀)) in_ways));
      }
    where
      cs : List ℕ
      cs = new_from 0 (λ j s. call) status ways₀ calls₀

      ws : List ℕ
      ws = new_from 0 (way_byte first m) status ways₀ ways₀

      in_calls : i < length calls₀
      in_calls = omega (arith, o.calls_len)

      in_ways : i < length ways₀
      in_ways = omega (arith, o.ways_len)

      ways_as : length ways₀ ≡ length calls₀
      ways_as = o.ways_len ∙ sym o.calls_len

      same_way : get_or ways i 0 ≡ get_or ways₀ i 0
      same_way = rw w.ways_are (get_d_part ws ways₀ i (omega (arith, length-new_from 0 (way_byte first m) status ways₀ ways₀)) in_ways)

      same_call : get_or calls i 0 ≡ get_or calls₀ i 0
      same_call = rw w.calls_are (get_d_part cs calls₀ i (omega (arith, length-new_from 0 (λ j s. call) status ways₀ calls₀)) in_calls)

  pub recording_done : {i : ℕ} {calls ways : List ℕ} → Recording call first m status calls₀ ways₀ i calls ways → length status ≤ i
      → RecordsPut call first m status calls₀ ways₀ calls ways
  recording_done {i} w h =
      record {
        calls_are =
            w.calls_are ∙ part_done (new_from 0 (λ j s. call) status ways₀ calls₀) calls₀ i (length-new_from 0 (λ j s. call) status ways₀ calls₀)
            (omega (arith, o.calls_len));
        ways_are =
            w.ways_are ∙ part_done (new_from 0 (way_byte first m) status ways₀ ways₀) ways₀ i (length-new_from 0 (way_byte first m) status ways₀ ways₀)
            (omega (arith, o.ways_len));
      }
