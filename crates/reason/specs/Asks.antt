-- What a call requires here, and the call as code makes it. Assumes nothing.
use Rattle.std.specs.Prelude.{◌≡◌, true, List, [], ◌∷◌, ◌++◌, ℕ, ◌≤◌, ◌<◌, ℤ, length, get_or, set}
use Rattle.rules.specs.declared.Outcome.{Outcome}
use Rattle.rules.specs.declared.WhyReport.{WhyReport}
use Rattle.rules.specs.Lists.{In}
use Rattle.rules.specs.Numbers.{max_vars, max_clauses, max_entries}
use Rattle.rules.specs.Meaning.{Clause, var_of, negated, clauses, LitUpTo}
use Rattle.rules.specs.Search.{Call, call_on}
use Rattle.rules.specs.Run.{blank}
use Rattle.rules.specs.Answer.{is_ended}
use Rattle.rules.specs.Why.{Question, WhyEnded, marked, false_call, on_second}
use Rattle.search.specs.declared.meter.Meter.{Meter}
use Rattle.search.specs.declared.call.CallEnd.{CallEnd}
use Rattle.search.specs.Calls.{CallEnds}

-- ---- a call from no value, and one with the literal false

abbrev pub blank_call : List Clause → ℕ → Meter → Call
blank_call F vars m = call_on m.budget F (blank vars) m.spent

abbrev pub marked_call : List Clause → ℕ → ℤ → Meter → Call
marked_call F vars l m = blank_call (F ++ (negated l ∷ []) ∷ []) vars m

-- they ended as r, with these values
abbrev pub BlankCalled : List Clause → ℕ → Meter → CallEnd → List ℕ → Type 0
BlankCalled F vars m r after = CallEnds (blank_call F vars m) (blank vars) m.budget r after

abbrev pub FalseCalled : List Clause → ℕ → ℤ → Meter → CallEnd → List ℕ → Type 0
FalseCalled F vars l m r after = CallEnds (marked_call F vars l m) (blank vars) m.budget r after

-- ---- what is required

-- clauses that were put, and room for their starts
pub record MarkedOver (vars : ℕ) (es : List ℤ) (l : ℤ) (starts : List ℕ) : Type 0 where
  pub vars_fit : vars ≤ max_vars
  pub entries_fit : length es ≤ max_entries
  pub clauses_fit : length (clauses es) ≤ max_clauses
  pub up_to : (k : ℤ) → In k es → var_of k ≤ vars
  pub literal_up_to : LitUpTo vars l
  pub starts_room : length (clauses es) < length starts

-- what no rule refuses, with a mark for each of as many clauses as there may be
pub record Asks (vars : ℕ) (es : List ℤ) (l : ℤ) (marks : List ℕ) : Type 0 where
  pub vars_fit : vars ≤ max_vars
  pub entries_fit : length es ≤ max_entries
  pub ended : is_ended es ≡ true
  pub clauses_fit : length (clauses es) ≤ max_clauses
  pub up_to : (k : ℤ) → In k es → var_of k ≤ vars
  pub literal_up_to : LitUpTo vars l
  pub marks_are : length marks ≡ max_clauses

-- and room for the clauses that are put, and for their starts
pub record Asked (vars : ℕ) (es : List ℤ) (l : ℤ) (kept : List ℤ) (starts marks : List ℕ) : Type 0 where
  pub asks : Asks vars es l marks
  pub kept_room : length es ≤ length kept
  pub starts_room : length (clauses es) < length starts

-- ---- what is promised

abbrev pub question : List ℤ → ℕ → ℕ → ℤ → Question
question es vars budget l = record { vars = vars; budget = budget; literal = l; formula = clauses es }

-- from the second call on, with so many tries spent
abbrev pub from_second : Question → ℕ → WhyEnded
from_second q t = on_second (false_call q q.formula t) q

-- the end, in what is returned and in both buffers
pub record EndsAs (e : WhyEnded) (result : WhyReport) (marks values : List ℕ) : Type 0 where
  pub result_is : result ≡ record { answer = e.answer; calls = e.calls; tries = e.tries }
  pub marks_are : marks ≡ e.marks
  pub values_are : values ≡ e.values

-- the mark of the clause at an index by the call without it
abbrev pub mark_by : Outcome → List ℕ → ℕ → List ℕ
mark_by Outcome.Model ms n = set ms n 1
mark_by Outcome.NoModel ms n = set ms n 0
mark_by Outcome.Stopped ms n = set ms n 0

-- the clause at index n is visited
pub record VisitDone (es : List ℤ) (vars : ℕ) (l : ℤ) (ms : List ℕ) (n : ℕ) (m : Meter) (result : CallEnd) (marks values : List ℕ) : Type 0 where
  pub call_ends : FalseCalled (marked (set ms n 0) (clauses es)) vars l m result values
  pub marks_are : marks ≡ mark_by result.outcome ms n

-- the first n clauses are marked
pub record MarkedBelow (ms : List ℕ) (n : ℕ) : Type 0 where
  pub below : (i : ℕ) → i < n → get_or ms i 0 ≡ 1
