-- The calls of a run as code makes them. Assumes nothing.
use Rattle.std.specs.Prelude.{◌≡◌, List, [], ◌∷◌, ◌++◌, ℕ, ◌≤◌, ◌<◌, min, ℤ, length, take}
use Rattle.rules.specs.declared.Report.{Report}
use Rattle.rules.specs.Numbers.{max_chunk}
use Rattle.rules.specs.Meaning.{Clause, Values, clauses}
use Rattle.rules.specs.Search.{Call, call_on}
use Rattle.rules.specs.Run.{Task, Progress, opens, candidates_from, constraint, forced_values, chunk_call, Ended, on_open, chunks}
use Rattle.rules.specs.Trace.{Reached}
use Rattle.formula.specs.Formula.{Formula}
use Rattle.search.specs.declared.meter.Meter.{Meter}
use Rattle.search.specs.declared.call.CallEnd.{CallEnd}
use Rattle.search.specs.Calls.{values_after, CallEnds}
use Rattle.calls.specs.declared.after.Tally.{Tally}
use Rattle.calls.specs.declared.next.Limits.{Limits}
use Rattle.std.specs.declared.ops.ControlFlow.{ControlFlow}
use Rattle.std.specs.declared.ops.ControlFlow.TheVariants.{Continue, Break}
use Rattle.calls.specs.After.{Shows, EndsAt}

-- ---- what a run is about

-- the chunk limit is one that no rule refuses
pub record Allowed (limits : Limits) : Type 0 where
  pub some : 1 ≤ limits.chunk
  pub most : limits.chunk ≤ max_chunk

-- the task of a run over so many variables
abbrev pub task : List ℤ → ℕ → Limits → Task
task es vars limits = record { vars = vars; budget = limits.budget; limit = limits.chunk; formula = clauses es }

-- the buffers and the tally are those of a progress that the run comes to
pub record At (k : Task) (t : Tally) (first status log : List ℕ) : Type 0 where
  pub progress : Progress
  pub reached : Reached k t.size progress
  pub shows : Shows k.vars progress t first status log

-- ---- what is required

-- for the call of a chunk: buffers for the variables of a formula, and as many candidates as the chunk takes
pub record ChunkOver (es : List ℤ) (starts : List ℕ) (first : Values) (status : List ℕ) (values : Values) (chunk : ℕ) : Type 0 where
  pub formula : Formula (length values) es starts
  pub first_len : length first ≡ length values
  pub status_len : length status ≡ length values
  pub chunk_most : chunk ≤ opens status

-- for the calls after the first: they are where a run on the formula comes to
pub record CallsOver (es : List ℤ) (starts : List ℕ) (first : Values) (status log : List ℕ) (values : Values) (t : Tally) (limits : Limits)
    : Type 0 where
  pub formula : Formula (length status) es starts
  pub values_len : length values ≡ length status
  pub allowed : Allowed limits
  pub here : At (task es (length status) limits) t first status log

-- for one more of them: a candidate remains
pub record CallDue (es : List ℤ) (starts : List ℕ) (first : Values) (status log : List ℕ) (values : Values) (t : Tally) (limits : Limits)
    : Type 0 where
  pub over : CallsOver es starts first status log values t limits
  pub some : 1 ≤ t.candidates

-- ---- one call

-- the formula, and behind it the constraint of a chunk of the candidates
abbrev pub chunk_clauses : List ℤ → Values → List ℕ → ℕ → List Clause
chunk_clauses es first status chunk = clauses es ++ constraint (take chunk (candidates_from 0 first status)) ∷ []

-- a call on them from the forced values
abbrev pub chunk_on : List ℤ → Values → List ℕ → ℕ → Meter → Call
chunk_on es first status chunk meter =
    call_on meter.budget (chunk_clauses es first status chunk) (forced_values status) meter.spent

-- it has ended so, and left these values
abbrev pub ChunkCalled : List ℤ → Values → List ℕ → ℕ → Meter → CallEnd → Values → Type 0
ChunkCalled es first status chunk meter result after =
    CallEnds (chunk_on es first status chunk meter) (forced_values status) meter.budget result after

-- what one call makes of the run, whatever is done next: it goes on from another progress with fewer candidates, or it ends there
pub data NextTo (k : Task) (size : ℕ) (p : Progress) (first : List ℕ) : ControlFlow Report Tally → List ℕ → List ℕ → Type 0 where
  goes_on : {t : Tally} {status log : List ℕ} (w : At k t first status log) → opens w.progress.statuses < opens p.statuses
      → ((next : ℕ → Progress → Ended) → on_open (opens p.statuses) k size p next ≡ next t.size w.progress)
      → NextTo k size p first (Continue t) status log
  ends : {r : Report} {status log : List ℕ} (e : Ended) → EndsAt k.vars e r status log
      → ((next : ℕ → Progress → Ended) → on_open (opens p.statuses) k size p next ≡ e)
      → NextTo k size p first (Break r) status log

-- one call: what it makes of the run, and the values that it leaves, its model or the literals forced so far
pub record Called (k : Task) (size : ℕ) (p : Progress) (first : List ℕ) (result : ControlFlow Report Tally) (status log : List ℕ)
    (values : Values) : Type 0 where
  pub next : NextTo k size p first result status log
  pub values_are : values ≡ values_after (chunk_call k p (min size (opens p.statuses))) (forced_values p.statuses)

-- the same from every progress that the buffers may show
abbrev pub CalledFrom : List ℤ → Limits → Tally → Values → List ℕ → List ℕ → ControlFlow Report Tally → List ℕ → List ℕ → Values → Type 0
CalledFrom es limits t first status log result status-after log-after values-after =
    (w : At (task es (length status) limits) t first status log)
    → Called (task es (length status) limits) t.size w.progress first result status-after log-after values-after

-- ---- the calls, to the end

-- from every progress that the buffers may show, the run has ended as its rules say
abbrev pub EndsFrom : List ℤ → Limits → Tally → Values → List ℕ → List ℕ → Report → List ℕ → List ℕ → Type 0
EndsFrom es limits t first status log result status-after log-after =
    (w : At (task es (length status) limits) t first status log)
    → EndsAt (length status) (chunks (task es (length status) limits) t.size w.progress) result status-after log-after
