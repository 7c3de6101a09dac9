-- docs/RULES.md, "Run": candidates, compare, flip, chunks, and the rows of the log. Assumes nothing.
use Rattle.std.specs.Prelude.{◌≡◌, Bool, true, false, not, List, [], ◌∷◌, ◌++◌, map, ℕ, zero, suc, ◌+◌, ◌-◌, min, eqb, ℤ, pos, negsuc, length, get_or}
use Rattle.std.specs.Prelude.{set, take, replicate}
use Rattle.rules.specs.declared.Outcome.{Outcome}
use Rattle.rules.specs.declared.RunAnswer.{RunAnswer}
use Rattle.rules.specs.declared.Way.{Way}
use Rattle.rules.specs.declared.Record.{Record}
use Rattle.rules.specs.Lists.{count}
use Rattle.rules.specs.Meaning.{Clause, Values, index_of, true_byte, value_at, negated, satisfies}
use Rattle.rules.specs.Records.{open_record, records_from, way_if}
use Rattle.rules.specs.Search.{Call, model, no_model, stopped, call_on}

-- what a run is about
pub record Task : Type 0 where
  pub vars : ℕ
  pub budget : ℕ
  pub limit : ℕ
  pub formula : List Clause

-- a row of the log, for one call begun
pub record Row : Type 0 where
  pub call : ℕ
  pub outcome : Outcome
  pub chunk : ℕ
  pub by_compare : ℕ
  pub by_flip : ℕ
  pub tries : ℕ

-- how far a run has come: its first model; for each variable 0 open, 1 free, 2 forced true, 3 forced false, and its record, which
-- has the same status; the tries on the meter; the rows; and the models found so far, which are not returned
pub record Progress : Type 0 where
  pub first : Values
  pub statuses : List ℕ
  pub records : List Record
  pub tries : ℕ
  pub rows : List Row
  pub models : List Values

-- ---- candidates: the literals of the first model whose variables are still open

-- the status of the variable at an index; one that has none counts as free
abbrev pub status_at : List ℕ → ℕ → ℕ
status_at ss i = get_or ss i 1

abbrev pub is_open : ℕ → Bool
is_open zero = true
is_open (suc s) = false

abbrev pub opens : List ℕ → ℕ
opens ss = count is_open ss

-- the literal of the variable at index i that is true where its byte is b
abbrev pub literal_at : ℕ → ℕ → ℤ
literal_at i zero = negsuc i
literal_at i (suc zero) = negsuc i
literal_at i (suc (suc b)) = pos (suc i)

abbrev pub candidates_from : ℕ → Values → List ℕ → List ℤ
candidates_from i [] ss = []
candidates_from i (b ∷ m) [] = []
candidates_from i (b ∷ m) (zero ∷ ss) = literal_at i b ∷ candidates_from (suc i) m ss
candidates_from i (b ∷ m) (suc s ∷ ss) = candidates_from (suc i) m ss

-- ---- after every model: compare, then flip. A candidate that is dropped is free

abbrev pub freed_if : Bool → ℕ → ℕ
freed_if true zero = 1
freed_if true (suc s) = suc s
freed_if false s = s

-- each open variable whose index passes becomes free
abbrev pub freed_from : ℕ → (ℕ → Bool) → List ℕ → List ℕ
freed_from i p [] = []
freed_from i p (s ∷ ss) = freed_if (p i) s ∷ freed_from (suc i) p ss

-- the model gives the variable another value
abbrev pub differs : Values → Values → ℕ → Bool
differs first m i = not (eqb (value_at m i) (value_at first i))

abbrev pub other_byte : ℕ → ℕ
other_byte zero = 0
other_byte (suc zero) = 2
other_byte (suc (suc b)) = 1

-- the model with this variable alone flipped
abbrev pub flipped : Values → ℕ → Values
flipped m i = set m i (other_byte (value_at m i))

-- flipped alone, it leaves all clauses of the formula true: neither the constraint nor the forced literals are consulted, and
-- every flip starts from the model as the call left it
abbrev pub can_flip : List Clause → Values → ℕ → Bool
can_flip F m i = satisfies (flipped m i) F

abbrev pub compared : Values → Values → List ℕ → List ℕ
compared first m ss = freed_from 0 (differs first m) ss

abbrev pub flips : List Clause → Values → List ℕ → List ℕ
flips F m ss = freed_from 0 (can_flip F m) ss

-- ---- a chunk without a model: all of it is forced

-- the status of a variable that is forced to the byte b
abbrev pub forced_by : ℕ → ℕ
forced_by zero = 3
forced_by (suc zero) = 3
forced_by (suc (suc b)) = 2

-- the status of a literal's variable says that the literal is forced
abbrev pub is_forced_to : List ℕ → ℤ → Type 0
is_forced_to ss l = status_at ss (index_of l) ≡ forced_by (true_byte l)

-- the lowest n open variables are forced to their values in the first model
abbrev pub force_first : Values → List ℕ → ℕ → List ℕ
force_first [] ss n = ss
force_first (b ∷ m) [] n = []
force_first (b ∷ m) (zero ∷ ss) zero = zero ∷ ss
force_first (b ∷ m) (zero ∷ ss) (suc n) = forced_by b ∷ force_first m ss n
force_first (b ∷ m) (suc s ∷ ss) n = suc s ∷ force_first m ss n

-- ---- the calls

abbrev pub blank : ℕ → Values
blank n = replicate n 0

abbrev pub forced_value : ℕ → ℕ
forced_value zero = 0
forced_value (suc zero) = 0
forced_value (suc (suc zero)) = 2
forced_value (suc (suc (suc s))) = 1

-- the literals forced so far, as values. That a call from them is a call with them as one-literal clauses is a theorem
abbrev pub forced_values : List ℕ → Values
forced_values ss = map forced_value ss

-- the lowest-numbered candidates
abbrev pub chunk_of : Progress → ℕ → List ℤ
chunk_of p n = take n (candidates_from 0 p.first p.statuses)

-- at least one of them is false
abbrev pub constraint : List ℤ → Clause
constraint ls = map negated ls

unfoldable pub chunk_call : Task → Progress → ℕ → Call
chunk_call k p n =
    call_on k.budget (k.formula ++ constraint (chunk_of p n) ∷ []) (forced_values p.statuses) p.tries

-- ---- what a call leaves

abbrev pub row_after : Progress → Outcome → ℕ → ℕ → ℕ → ℕ → Row
row_after p o chunk c f t =
    record { call = suc (length p.rows); outcome = o; chunk = chunk; by_compare = c; by_flip = f; tries = t - p.tries }

-- what compare leaves of the statuses, and then flip
abbrev pub filtered : Task → Progress → Values → List ℕ
filtered k p m = flips k.formula m (compared p.first m p.statuses)

abbrev pub model_row : Task → Progress → ℕ → Values → ℕ → Row
model_row k p chunk m t =
    let c = opens (compared p.first m p.statuses) in
    row_after p Outcome.Model chunk (opens p.statuses - c) (c - opens (filtered k p m)) t

abbrev pub after_model : Task → Progress → ℕ → Values → ℕ → Progress
after_model k p chunk m t =
    record {
      first = p.first;
      statuses = filtered k p m;
      records = records_from 0 (suc (length p.rows)) (λ i. way_if (differs p.first m i)) (filtered k p m) p.records;
      tries = t;
      rows = p.rows ++ (model_row k p chunk m t ∷ []);
      models = p.models ++ (m ∷ []);
    }

abbrev pub after_none : Progress → ℕ → ℕ → Progress
after_none p chunk t =
    record {
      first = p.first;
      statuses = force_first p.first p.statuses chunk;
      records = records_from 0 (suc (length p.rows)) (λ i. Way.Chunk) (force_first p.first p.statuses chunk) p.records;
      tries = t;
      rows = p.rows ++ (row_after p Outcome.NoModel chunk 0 0 t ∷ []);
      models = p.models;
    }

abbrev pub after_stop : Progress → ℕ → ℕ → Progress
after_stop p chunk t =
    record {
      first = p.first;
      statuses = p.statuses;
      records = p.records;
      tries = t;
      rows = p.rows ++ (row_after p Outcome.Stopped chunk 0 0 t ∷ []);
      models = p.models;
    }

-- ---- the run

pub record Ended : Type 0 where
  pub answer : RunAnswer
  pub progress : Progress

abbrev pub ended_by : RunAnswer → Progress → Ended
ended_by a p = record { answer = a; progress = p }

-- a model: drop, chunk size back to 1. None: the whole chunk is forced, chunk size doubles, up to the limit
abbrev pub on_call : Call → Task → Progress → ℕ → ℕ → (ℕ → Progress → Ended) → Ended
on_call (model m t) k p size chunk next = next 1 (after_model k p chunk m t)
on_call (no_model t) k p size chunk next = next (min (size + size) k.limit) (after_none p chunk t)
on_call (stopped t) k p size chunk next = ended_by RunAnswer.Stopped (after_stop p chunk t)

-- while candidates remain, take that many of the lowest-numbered, or all, if fewer
abbrev pub on_open : ℕ → Task → ℕ → Progress → (ℕ → Progress → Ended) → Ended
on_open zero k size p next = ended_by RunAnswer.Settled p
on_open (suc n) k size p next =
    let chunk = min size (suc n) in on_call (chunk_call k p chunk) k p size chunk next

-- each call settles a candidate, so that as many calls as there are candidates are enough
unfoldable pub chunks_in : ℕ → Task → ℕ → Progress → Ended
chunks_in zero k size p = ended_by RunAnswer.Settled p
chunks_in (suc n) k size p = on_open (opens p.statuses) k size p (λ s q. chunks_in n k s q)

unfoldable pub chunks : Task → ℕ → Progress → Ended
chunks k size p = chunks_in (opens p.statuses) k size p

-- before the first call: every variable is open
abbrev pub begun : Task → Values → Progress
begun k m =
    record { first = m; statuses = replicate k.vars 0; records = replicate k.vars open_record; tries = 0; rows = []; models = [] }

abbrev pub on_first : Call → Task → Ended
on_first (model m t) k = chunks k 1 (after_model k (begun k m) 0 m t)
on_first (no_model t) k = ended_by RunAnswer.NoModel (after_none (begun k []) 0 t)
on_first (stopped t) k = ended_by RunAnswer.Stopped (after_stop (begun k []) 0 t)

unfoldable pub first_call : Task → Call
first_call k = call_on k.budget k.formula (blank k.vars) 0

unfoldable pub run : Task → Ended
run k = on_first (first_call k) k
