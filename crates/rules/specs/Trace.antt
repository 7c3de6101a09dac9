-- docs/RULES.md, "Run", call by call: what progress a run comes to, how it ends, and what a call after the first does to the
-- statuses. How many candidates are taken, and how the chunk size grows, is said here without `min`, apart from specs/Run. Assumes
-- nothing.
use Rattle.std.specs.Prelude.{◌≡◌, ◌≢◌, ◌⊎◌, List, [], ℕ, ◌+◌, ◌≤◌, ◌<◌, ℤ, length}
use Rattle.rules.specs.declared.RunAnswer.{RunAnswer}
use Rattle.rules.specs.Lists.{In, count}
use Rattle.rules.specs.Meaning.{Values, index_of}
use Rattle.rules.specs.Search.{Call, model, no_model, stopped}
use Rattle.rules.specs.Run.{Task, Progress, status_at, opens, is_forced_to, chunk_of, chunk_call, begun, first_call}
use Rattle.rules.specs.Run.{after_model, after_none, after_stop, Ended, ended_by}
use Rattle.rules.specs.Answer.{is_free, is_forced}

-- ---- sizes

-- of so many candidates, as many as the size says are taken, or all, if they are fewer
pub data Taken (size candidates : ℕ) : ℕ → Type 0 where
  as_many : size ≤ candidates → Taken size candidates size
  all_left : candidates < size → Taken size candidates candidates

-- while candidates remain, a chunk of them is taken
pub record Takes (size : ℕ) (p : Progress) (chunk : ℕ) : Type 0 where
  pub remain : 1 ≤ opens p.statuses
  pub taken : Taken size (opens p.statuses) chunk

-- the size doubles, up to the limit
pub data Doubled (size limit : ℕ) : ℕ → Type 0 where
  twice : size + size ≤ limit → Doubled size limit (size + size)
  at_limit : limit < size + size → Doubled size limit limit

-- ---- the calls

-- progress that a run comes to, with the chunk size that is next
pub data Reached (k : Task) : ℕ → Progress → Type 0 where
  first_model : (m : Values) (t : ℕ) → first_call k ≡ model m t → Reached k 1 (after_model k (begun k m) 0 m t)
  next_model : {size chunk : ℕ} {p : Progress} (m : Values) (t : ℕ) → Reached k size p → Takes size p chunk
      → chunk_call k p chunk ≡ model m t → Reached k 1 (after_model k p chunk m t)
  next_none : {size chunk next : ℕ} {p : Progress} (t : ℕ) → Reached k size p → Takes size p chunk
      → chunk_call k p chunk ≡ no_model t → Doubled size k.limit next → Reached k next (after_none p chunk t)

-- how a run ends
pub data Ends (k : Task) : Ended → Type 0 where
  first_none : (t : ℕ) → first_call k ≡ no_model t → Ends k (ended_by RunAnswer.NoModel (after_none (begun k []) 0 t))
  first_stopped : (t : ℕ) → first_call k ≡ stopped t → Ends k (ended_by RunAnswer.Stopped (after_stop (begun k []) 0 t))
  settled : {size : ℕ} {p : Progress} → Reached k size p → opens p.statuses ≡ 0 → Ends k (ended_by RunAnswer.Settled p)
  next_stopped : {size chunk : ℕ} {p : Progress} (t : ℕ) → Reached k size p → Takes size p chunk
      → chunk_call k p chunk ≡ stopped t → Ends k (ended_by RunAnswer.Stopped (after_stop p chunk t))

-- the same formula, run with another budget and another chunk limit
abbrev pub with_limits : Task → ℕ → ℕ → Task
with_limits k budget limit = record { vars = k.vars; budget = budget; limit = limit; formula = k.formula }

-- ---- what a call after the first does to the statuses

-- more variables are free than before, and nothing else has changed
pub record FreesSome (before after : List ℕ) : Type 0 where
  pub more : count is_free before < count is_free after
  pub rest : (i : ℕ) → (status_at after i ≡ status_at before i) ⊎ ((status_at before i ≡ 0) × (status_at after i ≡ 1))

-- the literals of the chunk, which is not empty, are forced, exactly so many more than before, and nothing else has changed
pub record ForcesChunk (chunk : List ℤ) (before after : List ℕ) : Type 0 where
  pub some : 1 ≤ length chunk
  pub each : (l : ℤ) → In l chunk → is_forced_to after l
  pub more : count is_forced after ≡ count is_forced before + length chunk
  pub rest : (i : ℕ) → status_at after i ≢ status_at before i → (l : ℤ) × In l chunk × (index_of l ≡ i) × (status_at before i ≡ 0)

-- a call that finds a model frees some, one that finds none forces its chunk, one that is stopped changes nothing
abbrev pub Leaves : Call → Task → Progress → ℕ → Type 0
Leaves (model m t) k p chunk = FreesSome p.statuses (after_model k p chunk m t).statuses
Leaves (no_model t) k p chunk = ForcesChunk (chunk_of p chunk) p.statuses (after_none p chunk t).statuses
Leaves (stopped t) k p chunk = (after_stop p chunk t).statuses ≡ p.statuses
