-- What putting the records of a call does to the buffers of calls and ways. That they show then what specs/Records of `rules` says is a law
-- of the crate `calls`. Assumes nothing.
use Rattle.std.specs.Prelude.{◌≡◌, Bool, true, false, List, [], ◌∷◌, ℕ, zero, suc, ◌<◌, get_or, set, length}
use Rattle.rules.specs.declared.Way.{Way}
use Rattle.rules.specs.declared.Record.{Record}
use Rattle.rules.specs.Numbers.{way_number}
use Rattle.rules.specs.Meaning.{Values}
use Rattle.rules.specs.Records.{way_if}
use Rattle.rules.specs.Run.{differs}

-- how a variable was settled that has this status now, and whose value differs or not
abbrev pub way_now : ℕ → Bool → Way
way_now zero other = way_if other
way_now (suc zero) other = way_if other
way_now (suc (suc s)) other = Way.Chunk

abbrev pub record_now : ℕ → ℕ → Bool → Record
record_now status call other = record { status = status; call = call; way = way_now status other }

-- the call has settled a variable with this status if its way still says open
abbrev pub is_new : ℕ → ℕ → Bool
is_new zero w = false
is_new (suc s) zero = true
is_new (suc s) (suc w) = false

abbrev pub new_if : Bool → ℕ → ℕ → ℕ
new_if true new old = new
new_if false new old = old

-- the elements of a buffer where the variable at the index is newly settled are new, by its index and status; the others stay
abbrev pub new_from : ℕ → (ℕ → ℕ → ℕ) → List ℕ → List ℕ → List ℕ → List ℕ
new_from i new [] ws xs = xs
new_from i new (s ∷ ss) [] xs = xs
new_from i new (s ∷ ss) (w ∷ ws) [] = []
new_from i new (s ∷ ss) (w ∷ ws) (x ∷ xs) = new_if (is_new s w) (new i s) x ∷ new_from (suc i) new ss ws xs

-- the byte of the way of a newly settled variable
abbrev pub way_byte : Values → Values → ℕ → ℕ → ℕ
way_byte first m i s = way_number (way_now s (differs first m i))

-- at one index
pub record RecordsAt (i call : ℕ) (first m : Values) (status calls ways calls-after ways-after : List ℕ) : Type 0 where
  pub calls_are : calls-after ≡ set calls i (new_if (is_new (get_or status i 0) (get_or ways i 0)) call (get_or calls i 0))
  pub ways_are : ways-after ≡ set ways i (new_if (is_new (get_or status i 0) (get_or ways i 0)) (way_byte first m i (get_or status i 0)) (get_or ways i 0))

-- in all
pub record RecordsPut (call : ℕ) (first m : Values) (status calls ways calls-after ways-after : List ℕ) : Type 0 where
  pub calls_are : calls-after ≡ new_from 0 (λ i s. call) status ways calls
  pub ways_are : ways-after ≡ new_from 0 (way_byte first m) status ways ways

-- ---- what is required

-- an index within all buffers
pub record RecordOver (first m : Values) (status calls ways : List ℕ) (i : ℕ) : Type 0 where
  pub in_first : i < length first
  pub in_model : i < length m
  pub in_status : i < length status
  pub in_calls : i < length calls
  pub in_ways : i < length ways

-- all buffers are of the same variables
pub record RecordsOver (first m : Values) (status calls ways : List ℕ) : Type 0 where
  pub first_len : length first ≡ length status
  pub model_len : length m ≡ length status
  pub calls_len : length calls ≡ length status
  pub ways_len : length ways ≡ length status
