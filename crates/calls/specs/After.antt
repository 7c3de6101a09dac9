-- A progress of the run as code has it: the first model, the statuses and the log in buffers, and the counts in a tally; what each end
-- of a call leaves of it. Assumes nothing.
use Rattle.std.specs.Prelude.{◌≡◌, List, ℕ, ◌+◌, ◌-◌, ◌*◌, ◌≤◌, min, ℤ, length}
use Rattle.rules.specs.declared.Outcome.{Outcome}
use Rattle.rules.specs.declared.RunAnswer.{RunAnswer}
use Rattle.rules.specs.declared.Report.{Report}
use Rattle.rules.specs.Lists.{count}
use Rattle.rules.specs.Numbers.{max_vars}
use Rattle.rules.specs.Meaning.{Clause, Values}
use Rattle.rules.specs.Run.{Progress, opens, differs, force_first, Ended}
use Rattle.rules.specs.Answer.{is_free, is_forced, log_of_rows, report_of_run}
use Rattle.formula.specs.Formula.{Formula}
use Rattle.steps.specs.Filter.{Drops}
use Rattle.steps.specs.Flip.{Flips}
use Rattle.steps.specs.Row.{with_row}
use Rattle.calls.specs.declared.after.Tally.{Tally}
use Rattle.calls.specs.declared.after.Made.{Made}

-- the buffers and the tally show the progress p of a run over so many variables
pub record Shows (vars : ℕ) (p : Progress) (t : Tally) (first status log : List ℕ) : Type 0 where
  pub first_is : first ≡ p.first
  pub status_is : status ≡ p.statuses
  pub log_is : log ≡ log_of_rows vars p.rows
  pub candidates_are : t.candidates ≡ opens p.statuses
  pub calls_is : t.calls ≡ length p.rows
  pub tries_is : t.tries ≡ p.tries
  pub free_is : t.free ≡ count is_free p.statuses
  pub forced_is : t.forced ≡ count is_forced p.statuses

-- the run has ended as e says: what it returns, its statuses and its log
pub record EndsAt (vars : ℕ) (e : Ended) (result : Report) (status log : List ℕ) : Type 0 where
  pub result_is : result ≡ report_of_run e
  pub status_is : status ≡ e.progress.statuses
  pub log_is : log ≡ log_of_rows vars e.progress.rows

-- ---- what is required

-- there is room for one row more, and the tries have not become fewer
pub record RowRoom (log : List ℕ) (t : Tally) (made : Made) : Type 0 where
  pub log_room_lem : 6 * (t.calls + 1) ≤ length log
  pub calls_fit : t.calls ≤ max_vars
  pub tries_up : t.tries ≤ made.spent

-- and no count is out of range
pub record TallyReady (first status log : List ℕ) (t : Tally) (made : Made) : Type 0 where
  pub row : RowRoom log t made
  pub len : length first ≡ length status
  pub vars_fit : length status ≤ max_vars
  pub candidates_are : t.candidates ≡ opens status
  pub free_fit : t.free ≤ max_vars
  pub forced_fit : t.forced ≤ max_vars

-- after a model, also a formula over as many variables as the model has
pub record ModelReady (es : List ℤ) (starts : List ℕ) (first m : Values) (status log : List ℕ) (t : Tally) (made : Made) : Type 0 where
  pub formula : Formula (length m) es starts
  pub tally : TallyReady first status log t made
  pub model_len : length m ≡ length status

-- after none, also a chunk of candidates, and a size that can be doubled
pub record NoneReady (first status log : List ℕ) (t : Tally) (made : Made) : Type 0 where
  pub tally : TallyReady first status log t made
  pub chunk_most : made.chunk ≤ t.candidates
  pub size_fit : t.size ≤ max_vars

-- ---- what is left

abbrev pub doubled : ℕ → ℕ → ℕ
doubled size limit = min (size + size) limit

-- the answer of a run that a call ends; after a model it is not asked for
abbrev pub answer_of : Outcome → RunAnswer
answer_of Outcome.Model = RunAnswer.Settled
answer_of Outcome.NoModel = RunAnswer.NoModel
answer_of Outcome.Stopped = RunAnswer.Stopped

-- the log with the row of the next call: what it ended with, its chunk, what compare and flip dropped, and the tries spent by then
abbrev pub row_put : List ℕ → Tally → Outcome → Made → ℕ → ℕ → List ℕ
row_put log t o made c f =
    with_row log t.calls t.tries
    (record { outcome = o; chunk = made.chunk; by_compare = c; by_flip = f; spent = made.spent })

-- a model: compare, then flip, each with what it dropped; the chunk size is 1, and the model as it was
pub record ModelLeft (F : List Clause) (first m : Values) (status log : List ℕ) (t : Tally) (made : Made)
    (result : Tally) (m-after : Values) (status-after log-after : List ℕ) : Type 0 where
  pub by_compare : ℕ
  pub by_flip : ℕ
  pub between : List ℕ
  pub compares : Drops (differs first m) status by_compare between
  pub flips : Flips F m between by_flip m-after status-after
  pub log_is : log-after ≡ row_put log t Outcome.Model made by_compare by_flip
  pub result_is :
      result
      ≡ record {
        size = 1;
        candidates = t.candidates - by_compare - by_flip;
        calls = t.calls + 1;
        tries = made.spent;
        free = t.free + by_compare + by_flip;
        forced = t.forced;
      }

-- none: the chunk is forced, and its size doubles
pub record NoneLeft (first status log : List ℕ) (t : Tally) (made : Made) (limit : ℕ)
    (result : Tally) (status-after log-after : List ℕ) : Type 0 where
  pub status_is : status-after ≡ force_first first status made.chunk
  pub log_is : log-after ≡ row_put log t Outcome.NoModel made 0 0
  pub result_is :
      result
      ≡ record {
        size = doubled t.size limit;
        candidates = t.candidates - made.chunk;
        calls = t.calls + 1;
        tries = made.spent;
        free = t.free;
        forced = t.forced + made.chunk;
      }

-- a row without drops that ends the run, and what the run returns
pub record RowLeft (log : List ℕ) (t : Tally) (o : Outcome) (made : Made) (result : Report) (log-after : List ℕ) : Type 0 where
  pub log_is : log-after ≡ row_put log t o made 0 0
  pub result_is :
      result
      ≡ record { answer = answer_of o; calls = t.calls + 1; tries = made.spent; forced = t.forced; free = t.free }
