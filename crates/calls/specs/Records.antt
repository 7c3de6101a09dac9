-- The records of a run as code has them: beside the statuses, calls and ways in two buffers, an element a variable. Assumes nothing.
use Rattle.std.specs.Prelude.{◌≡◌, List, ℕ, ℤ, length}
use Rattle.rules.specs.declared.Record.{Record}
use Rattle.rules.specs.declared.Report.{Report}
use Rattle.rules.specs.Meaning.{Values}
use Rattle.rules.specs.Records.{calls_of, ways_of}
use Rattle.rules.specs.Run.{chunks}
use Rattle.calls.specs.declared.after.Tally.{Tally}
use Rattle.calls.specs.declared.next.Limits.{Limits}
use Rattle.calls.specs.Next.{At, CallsOver, EndsFrom, task}

-- the two buffers show these records
pub record ShowsRecords (rs : List Record) (calls ways : List ℕ) : Type 0 where
  pub calls_are : calls ≡ calls_of rs
  pub ways_are : ways ≡ ways_of rs

-- ---- what is required

-- an element for each variable
pub record RecordsLent (status calls ways : List ℕ) : Type 0 where
  pub calls_len : length calls ≡ length status
  pub ways_len : length ways ≡ length status

-- for the calls after the first, with their records
pub record RunOver (es : List ℤ) (starts : List ℕ) (first : Values) (status calls ways log : List ℕ) (values : Values) (t : Tally) (limits : Limits)
    : Type 0 where
  pub over : CallsOver es starts first status log values t limits
  pub lent : RecordsLent status calls ways

-- ---- the calls, to the end

-- from every progress that the buffers may show, calls and ways with it, they show the records of the run's end
abbrev pub RecordsTo : List ℤ → Limits → Tally → Values → List ℕ → List ℕ → List ℕ → List ℕ → List ℕ → List ℕ → Type 0
RecordsTo es limits t first status calls ways log calls-after ways-after =
    (w : At (task es (length status) limits) t first status log) → ShowsRecords w.progress.records calls ways
    → ShowsRecords (chunks (task es (length status) limits) t.size w.progress).progress.records calls-after ways-after

pub record RunEnds (es : List ℤ) (limits : Limits) (t : Tally) (first : Values) (status calls ways log : List ℕ)
    (result : Report) (status-after calls-after ways-after log-after : List ℕ) : Type 0 where
  pub ends : EndsFrom es limits t first status log result status-after log-after
  pub records : RecordsTo es limits t first status calls ways log calls-after ways-after
