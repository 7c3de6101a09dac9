-- A call made again as code makes it: what it is given is read off the records and the log of a run. Assumes nothing.
use Rattle.std.specs.Prelude.{◌≡◌, true, List, [], ◌∷◌, ℕ, zero, suc, ◌+◌, ◌*◌, ◌≤◌, ◌<◌, ltb, ℤ, length, get_or}
use Rattle.rules.specs.Numbers.{max_clauses, max_held}
use Rattle.rules.specs.Meaning.{Values, clauses}
use Rattle.rules.specs.Records.{record_at, calls_of, by_model}
use Rattle.rules.specs.Run.{opens, forced_values, run}
use Rattle.rules.specs.Answer.{log_of_rows}
use Rattle.rules.specs.Witness.{model_of_call, status_if_before}
use Rattle.formula.specs.Starts.{starts_of}
use Rattle.formula.specs.Formula.{Formula}
use Rattle.search.specs.declared.meter.Meter.{Meter}
use Rattle.search.specs.Calls.{values_after}
use Rattle.calls.specs.declared.next.Limits.{Limits}
use Rattle.calls.specs.Next.{Allowed, task, chunk_on}

-- the statuses that calls before call n settled; the others are 0
abbrev pub kept_before : ℕ → List ℕ → List ℕ → List ℕ
kept_before n [] cs = []
kept_before n (s ∷ ss) [] = s ∷ ss
kept_before n (s ∷ ss) (c ∷ cs) = status_if_before (ltb c n) s ∷ kept_before n ss cs

-- the sixth column of the first n rows
abbrev pub tries_in : List ℕ → ℕ → ℕ
tries_in log zero = 0
tries_in log (suc n) = tries_in log n + get_or log (6 * n + 5) 0

-- the values that a chunk's call leaves
pub record CalledAgain (es : List ℤ) (first : Values) (status : List ℕ) (chunk : ℕ) (meter : Meter) (after : Values) : Type 0 where
  pub values_are : after ≡ values_after (chunk_on es first status chunk meter) (forced_values status)

-- the model of a call of the run is left
pub record ModelLeft (es : List ℤ) (limits : Limits) (vars call : ℕ) (after : Values) : Type 0 where
  pub model_is :
      after
      ≡ model_of_call (run (task es vars limits)).progress.rows (run (task es vars limits)).progress.models call

-- ---- what is required

-- the rows are there, and their tries fit a number
pub record TriesOver (log : List ℕ) (rows : ℕ) : Type 0 where
  pub within : 6 * rows ≤ length log
  pub fits : tries_in log rows < 4294967296

-- a formula over the variables, buffers for them, and as many candidates as the chunk takes
pub record AgainOver (es : List ℤ) (first : Values) (status : List ℕ) (values : Values) (chunk : ℕ) : Type 0 where
  pub formula : Formula (length values) es (starts_of es)
  pub clauses_most : length (clauses es) ≤ max_clauses + max_held
  pub first_len : length first ≡ length values
  pub status_len : length status ≡ length values
  pub chunk_most : chunk ≤ opens status

-- the call is that of a variable that is free in the run, and the buffers are as the run left them
pub record CallKnown (es : List ℤ) (limits : Limits) (first : Values) (status calls log : List ℕ) (values : Values) (call : ℕ) : Type 0 where
  pub formula : Formula (length status) es (starts_of es)
  pub clauses_most : length (clauses es) ≤ max_clauses + max_held
  pub allowed : Allowed limits
  pub values_len : length values ≡ length status
  pub first_is : first ≡ (run (task es (length status) limits)).progress.first
  pub status_is : status ≡ (run (task es (length status) limits)).progress.statuses
  pub calls_are : calls ≡ calls_of (run (task es (length status) limits)).progress.records
  pub log_is : log ≡ log_of_rows (length status) (run (task es (length status) limits)).progress.rows
  pub index : ℕ
  pub free : by_model (record_at (run (task es (length status) limits)).progress.records index).way ≡ true
  pub call_is : call ≡ (record_at (run (task es (length status) limits)).progress.records index).call
