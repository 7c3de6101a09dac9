-- The first call of a run as code makes it, and the run when it is done. Assumes nothing.
use Rattle.std.specs.Prelude.{◌≡◌, List, ℕ, ◌+◌, ◌≤◌, ℤ, length, replicate}
use Rattle.rules.specs.declared.Report.{Report}
use Rattle.rules.specs.Numbers.{max_clauses, max_entries, max_held}
use Rattle.rules.specs.Meaning.{Values, clauses}
use Rattle.rules.specs.Search.{Call, model, call_on}
use Rattle.rules.specs.Run.{Task, blank, first_call, run}
use Rattle.rules.specs.Hints.{hints_of}
use Rattle.rules.specs.Answer.{log_length}
use Rattle.formula.specs.Starts.{starts_of}
use Rattle.formula.specs.Formula.{Formula}
use Rattle.search.specs.declared.call.CallEnd.{CallEnd}
use Rattle.search.specs.Calls.{values_after, CallEnds}
use Rattle.calls.specs.declared.after.Tally.{Tally}
use Rattle.calls.specs.declared.next.Limits.{Limits}
use Rattle.calls.specs.After.{EndsAt}
use Rattle.calls.specs.Next.{Allowed, task}
use Rattle.calls.specs.Records.{ShowsRecords, RecordsLent}

-- the first call: on the formula alone, from no value
abbrev pub first_on : List ℤ → ℕ → ℕ → Call
first_on es vars budget = call_on budget (clauses es) (blank vars) 0

-- it has ended so, and left these values
abbrev pub FirstCalled : List ℤ → ℕ → ℕ → CallEnd → Values → Type 0
FirstCalled es vars budget result after = CallEnds (first_on es vars budget) (blank vars) budget result after

-- all variables open, and no row
pub record Cleared (status calls ways log : List ℕ) : Type 0 where
  pub status_is : status ≡ replicate (length status) 0
  pub calls_are : calls ≡ replicate (length status) 0
  pub ways_are : ways ≡ replicate (length status) 0
  pub log_is : log ≡ replicate (log_length (length status)) 0

-- ---- what is required

-- a list that no rule refuses, with held literals behind it that none does, room for records, hints and log, and limits that none refuses
pub record ListTaken (es : List ℤ) (first : Values) (status calls ways hints log : List ℕ) (limits : Limits) : Type 0 where
  pub formula : Formula (length status) es (starts_of es)
  pub entries_most : length es ≤ max_entries + (max_held + max_held)
  pub clauses_most : length (clauses es) ≤ max_clauses + max_held
  pub first_len : length first ≡ length status
  pub lent : RecordsLent status calls ways
  pub hints_len : length hints ≡ length status
  pub log_len : length log ≡ log_length (length status)
  pub allowed : Allowed limits

-- a run that is to begin: its formula, room for the first model, all variables open and no row
pub record RunBegins (es : List ℤ) (starts : List ℕ) (first : Values) (status calls ways log : List ℕ) (limits : Limits) : Type 0 where
  pub formula : Formula (length status) es starts
  pub first_len : length first ≡ length status
  pub cleared : Cleared status calls ways log
  pub allowed : Allowed limits

-- with no first model yet, and room for the hints
pub record HintsBegin (es : List ℤ) (starts : List ℕ) (first : Values) (status calls ways hints log : List ℕ) (limits : Limits) : Type 0 where
  pub begins : RunBegins es starts first status calls ways log limits
  pub blank_first : first ≡ blank (length status)
  pub hints_len : length hints ≡ length status

-- a run that is to begin, with room for the values of its calls
pub record CallsBegin (es : List ℤ) (starts : List ℕ) (values first : Values) (status calls ways log : List ℕ) (limits : Limits) : Type 0 where
  pub begins : RunBegins es starts first status calls ways log limits
  pub values_len : length values ≡ length status

-- where the first call has found the model that these values are
pub record FirstFound (es : List ℤ) (starts : List ℕ) (values first : Values) (status calls ways log : List ℕ) (spent : ℕ) (limits : Limits)
    : Type 0 where
  pub begins : RunBegins es starts first status calls ways log limits
  pub values_len : length values ≡ length status
  pub found : first_call (task es (length status) limits) ≡ model values spent

-- ---- what is left

-- before the first call
abbrev pub started : ℕ → Tally
started vars = record { size = 1; candidates = vars; calls = 0; tries = 0; free = 0; forced = 0 }

-- the run is done: what it returns, its statuses and its log
abbrev pub RunDone : Task → Report → List ℕ → List ℕ → Type 0
RunDone k result status log = EndsAt k.vars (run k) result status log

-- the same of a run on a list over so many variables; calls and ways show its records, and in `first` its first model stands, if there is
-- one, else what was there
pub record ListDone (es : List ℤ) (vars : ℕ) (limits : Limits) (first : Values) (result : Report) (first-after : Values)
    (status calls ways log : List ℕ) : Type 0 where
  pub done : RunDone (task es vars limits) result status log
  pub records : ShowsRecords (run (task es vars limits)).progress.records calls ways
  pub first_is : first-after ≡ values_after (first_call (task es vars limits)) first

-- and with its hints, where no first model stood before
pub record HintsDone (es : List ℤ) (vars : ℕ) (limits : Limits) (result : Report) (first-after : Values)
    (status calls ways hints log : List ℕ) : Type 0 where
  pub run_done : ListDone es vars limits (blank vars) result first-after status calls ways log
  pub hints_are : hints ≡ hints_of (task es vars limits)
