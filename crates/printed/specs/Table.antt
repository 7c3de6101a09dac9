-- The table of docs/RULES.md, "The printed table", of an entry list: what a table is put from. Assumes nothing.
use Rattle.std.specs.Prelude.{◌≡◌, ◌⊎◌, Bool, ◌&&◌, List, ℕ, ◌+◌, ◌≤◌, ltb, ℤ, length}
use Rattle.rules.specs.declared.RunAnswer.{RunAnswer}
use Rattle.rules.specs.declared.Report.{Report}
use Rattle.rules.specs.Numbers.{max_vars}
use Rattle.texts.specs.Text.{Sizes}
use Rattle.texts.specs.Reading.{accepted, entries_after}
use Rattle.rules.specs.Answer.{Given, Buffers, log_length, status_after, calls_after, ways_after, hints_after, log_after}
use Rattle.rules.specs.RunRefusals.{Formed}
use Rattle.texts.specs.Printed.{table_of_run, table_given, table_of_judged, table_of}
use Rattle.buffers.specs.Put.{Room, Put}

-- the number of a run's answer is that of a refusal: 1 to 19
abbrev pub is_refusal : ℕ → Bool
is_refusal n = ltb 0 n && ltb n 20

-- the number of clauses is not looked at
abbrev pub sizes : ℕ → Sizes
sizes vars = record { vars = vars; clauses = 0 }

abbrev pub list_given : ℕ → List ℤ → List ℤ → Given
list_given vars es held = table_given (sizes vars) es held

-- the table of an accepted text with this entry list, and with literals held
abbrev pub table_of_list : ℕ → List ℤ → List ℤ → List ℕ
table_of_list vars es held = table_of_judged (accepted (sizes vars) es) held

-- a list that no rule refuses, and room for its table
pub record ListReady (vars : ℕ) (es held : List ℤ) (out : List ℕ) : Type 0 where
  pub runs : Formed (list_given vars es held)
  pub room : Room 0 (table_of_list vars es held) out

-- buffers of just the size
pub record Sized (vars : ℕ) (lent : Buffers) : Type 0 where
  pub status_len : length lent.status ≡ vars
  pub calls_len : length lent.calls ≡ vars
  pub ways_len : length lent.ways ≡ vars
  pub hints_len : length lent.hints ≡ vars
  pub log_len : length lent.log ≡ log_length vars

-- the run was not refused
abbrev pub Ran : RunAnswer → Type 0
Ran a = (a ≡ RunAnswer.Settled) ⊎ ((a ≡ RunAnswer.NoModel) ⊎ (a ≡ RunAnswer.Stopped))

-- a run that is over, or was refused, its statuses and hints, and room for its table
pub record TableReady (vars : ℕ) (r : Report) (ss hs out : List ℕ) : Type 0 where
  pub counted : r.forced + r.free ≤ vars
  pub vars_fit : length ss ≤ max_vars
  pub hints_fit : length ss ≤ length hs
  pub room : Room 0 (table_of_run vars r ss hs) out

-- the table of a list is put, and the buffers are as its run leaves them
pub record RunPut (g : Given) (before : List ℕ) (next : ℕ) (left : Buffers) (after : List ℕ) : Type 0 where
  pub put : Put 0 (table_of_list g.vars g.entries g.held) before next after
  pub status_is : left.status ≡ status_after g
  pub calls_are : left.calls ≡ calls_after g
  pub ways_are : left.ways ≡ ways_after g
  pub hints_are : left.hints ≡ hints_after g
  pub log_is : left.log ≡ log_after g

-- the table of a text is put, and the entries are as its reading leaves them
pub record TextPut (text : List ℕ) (held entries : List ℤ) (before : List ℕ) (next : ℕ) (read : List ℤ) (after : List ℕ) : Type 0 where
  pub put : Put 0 (table_of text held) before next after
  pub entries_are : read ≡ entries_after text entries
