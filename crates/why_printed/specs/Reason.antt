-- What an answer is put from: the clauses that are kept, and an entry list that was asked. Assumes nothing.
use Rattle.std.specs.Prelude.{◌≡◌, List, ◌++◌, ℕ, suc, ◌≤◌, ◌<◌, ◌^◌, ℤ, length, drop}
use Rattle.rules.specs.declared.WhyReport.{WhyReport}
use Rattle.rules.specs.Numbers.{max_vars, max_clauses, max_entries}
use Rattle.rules.specs.Meaning.{clauses}
use Rattle.texts.specs.Reading.{entries_after}
use Rattle.rules.specs.Why.{WhyGiven, marked, marks_after, why_values_after}
use Rattle.texts.specs.WhyPrinted.{why_line, kept_lines, why_text_of_report, why_text_of_list, why_text_of}
use Rattle.buffers.specs.Put.{Room, Put}
use Rattle.formula.specs.Starts.{starts_of}

-- the clauses of an entry list by number, with a mark for each
pub record ClausesReady (es : List ℤ) (starts marks : List ℕ) : Type 0 where
  pub entries_fit : length es < 2 ^ 16
  pub starts_are : starts ≡ starts_of es
  pub marks_fit : length (clauses es) ≤ length marks

-- the first line and the clauses that are kept
abbrev pub reason_text : WhyReport → List ℤ → List ℕ → List ℕ
reason_text r es marks = why_line r (length (marked marks (clauses es))) ++ kept_lines marks (clauses es)

pub record ReasonReady (r : WhyReport) (es : List ℤ) (marks out : List ℕ) : Type 0 where
  pub entries_fit : length es ≤ max_entries
  pub clauses_fit : length (clauses es) ≤ max_clauses
  pub marks_fit : length (clauses es) ≤ length marks
  pub room : Room 0 (reason_text r es marks) out

-- they are put, and the starts are found
pub record ReasonPut (r : WhyReport) (es : List ℤ) (marks before starts : List ℕ) (next : ℕ) (after found : List ℕ) : Type 0 where
  pub put : Put 0 (reason_text r es marks) before next after
  pub starts_are : found ≡ starts_of es ++ drop (suc (length (clauses es))) starts

-- an answer with its marks and values, and room for it
pub record AnswerReady (r : WhyReport) (es : List ℤ) (marks values out : List ℕ) : Type 0 where
  pub entries_fit : length es ≤ max_entries
  pub clauses_fit : length (clauses es) ≤ max_clauses
  pub marks_fit : length (clauses es) ≤ length marks
  pub values_fit : length values ≤ max_vars
  pub room : Room 0 (why_text_of_report r (clauses es) marks values) out

-- a list that is asked, and room for the answer
pub record ListReady (vars : ℕ) (es : List ℤ) (l : ℤ) (out : List ℕ) : Type 0 where
  pub vars_fit : vars ≤ max_vars
  pub entries_fit : length es ≤ max_entries
  pub clauses_fit : length (clauses es) ≤ max_clauses
  pub room : Room 0 (why_text_of_list vars es l) out

-- buffers of just the size
pub record Sized (vars : ℕ) (marks values : List ℕ) : Type 0 where
  pub marks_len : length marks ≡ max_clauses
  pub values_len : length values ≡ vars

-- the answer of a list is put, and both buffers are as it leaves them
pub record AskedPut (g : WhyGiven) (before : List ℕ) (next : ℕ) (marks values after : List ℕ) : Type 0 where
  pub put : Put 0 (why_text_of_list g.vars g.entries g.literal) before next after
  pub marks_are : marks ≡ marks_after g
  pub values_are : values ≡ why_values_after g

-- the answer of a text is put, and the entries are as its reading leaves them
pub record TextPut (text : List ℕ) (l : ℤ) (entries : List ℤ) (before : List ℕ) (next : ℕ) (read : List ℤ) (after : List ℕ) : Type 0 where
  pub put : Put 0 (why_text_of text l) before next after
  pub entries_are : read ≡ entries_after text entries
