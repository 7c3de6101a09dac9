-- docs/RULES.md, "What comes back", for the run: its refusals in their order, what it returns, and what the lent buffers hold
-- afterwards. Assumes nothing.
use Rattle.std.specs.Prelude.{◌≡◌, Bool, true, not, ◌||◌, List, [], ◌∷◌, ◌++◌, map, ℕ, ◌+◌, ◌-◌, ◌*◌, eqb, leb, ltb, ℤ, length, drop, replicate}
use Rattle.std.proofs.Math.Option.{Option, none, some}
use Rattle.rules.specs.declared.Refusal.{Refusal}
use Rattle.rules.specs.declared.RunAnswer.{RunAnswer}
use Rattle.rules.specs.declared.Report.{Report}
use Rattle.rules.specs.Lists.{any, count, joined, nth_index, Check, check, first_of, is_zero}
use Rattle.rules.specs.Numbers.{max_vars, max_clauses, max_entries, max_chunk, outcome_number}
use Rattle.rules.specs.Meaning.{var_of, clauses}
use Rattle.rules.specs.Records.{calls_of, ways_of}
use Rattle.rules.specs.Run.{Task, Row, Ended, run}
use Rattle.rules.specs.Hints.{hints_of}
use Rattle.rules.specs.Held.{with_held, held_rules}

-- what a run is given, and the buffers as they are lent
pub record Given : Type 0 where
  pub entries : List ℤ
  pub vars : ℕ
  pub held : List ℤ
  pub budget : ℕ
  pub limit : ℕ
  pub status : List ℕ
  pub calls : List ℕ
  pub ways : List ℕ
  pub hints : List ℕ
  pub log : List ℕ

-- the buffers that a run is lent
pub record Buffers : Type 0 where
  pub status : List ℕ
  pub calls : List ℕ
  pub ways : List ℕ
  pub hints : List ℕ
  pub log : List ℕ

abbrev pub buffers : List ℕ → List ℕ → List ℕ → List ℕ → List ℕ → Buffers
buffers status calls ways hints log = record { status = status; calls = calls; ways = ways; hints = hints; log = log }

abbrev pub given : List ℤ → ℕ → List ℤ → ℕ → ℕ → Buffers → Given
given es vars held budget limit lent =
    record {
      entries = es;
      vars = vars;
      held = held;
      budget = budget;
      limit = limit;
      status = lent.status;
      calls = lent.calls;
      ways = lent.ways;
      hints = lent.hints;
      log = lent.log;
    }

-- six numbers for each of V + 1 calls
abbrev pub log_length : ℕ → ℕ
log_length vars = 6 * (vars + 1)

-- ---- refusals, in the order 10, 1, 11, 12, 15, 13

-- empty, or ended by 0
abbrev pub is_ended : List ℤ → Bool
is_ended [] = true
is_ended (e ∷ []) = is_zero e
is_ended (e ∷ f ∷ es) = is_ended (f ∷ es)

abbrev pub is_above : ℕ → ℤ → Bool
is_above vars l = ltb vars (var_of l)

-- 11 and 12: what a list is refused for, whoever takes it
abbrev pub list_rules : List ℤ → ℕ → List (Check Refusal)
list_rules es vars =
    check (ltb max_entries (length es)) (Refusal.BadList max_entries) ∷
    check (not (is_ended es)) (Refusal.BadList (length es)) ∷
    check (ltb max_clauses (count is_zero es)) (Refusal.BadList (nth_index is_zero es max_clauses)) ∷
    check (any (is_above vars) es) (Refusal.EntryOverVars (nth_index (is_above vars) es 0)) ∷
    []

-- 10 and 1, then the list, then the held literals: the order is the same for whoever takes them, and 10 and 1 are each one's own
abbrev pub taking_rules : Bool → Bool → List ℤ → ℕ → List ℤ → List (Check Refusal)
taking_rules bad short es vars held = check bad Refusal.BadLimits ∷ check short Refusal.ShortBuffer ∷ (list_rules es vars ++ held_rules held vars)

-- 10
abbrev pub out_of_limits : ℕ → ℕ → Bool
out_of_limits vars limit = ltb max_vars vars || (eqb limit 0 || ltb max_chunk limit)

-- 1, by the lengths of the buffers
abbrev pub too_short : ℕ → ℕ → ℕ → ℕ → ℕ → ℕ → Bool
too_short vars status calls ways hints log =
    ltb status vars || (ltb calls vars || (ltb ways vars || (ltb hints vars || ltb log (log_length vars))))

abbrev pub is_short : Given → Bool
is_short g = too_short g.vars (length g.status) (length g.calls) (length g.ways) (length g.hints) (length g.log)

unfoldable pub refusal_of : Given → Option Refusal
refusal_of g = first_of (taking_rules (out_of_limits g.vars g.limit) (is_short g) g.entries g.vars g.held)

abbrev pub task_of : Given → Task
task_of g = record { vars = g.vars; budget = g.budget; limit = g.limit; formula = with_held (clauses g.entries) g.held }

-- the same with no word of held literals; that a run with an empty list is this one is a theorem
abbrev pub plain_refusal : Given → Option Refusal
plain_refusal g =
    first_of
    (check (out_of_limits g.vars g.limit) Refusal.BadLimits ∷ check (is_short g) Refusal.ShortBuffer ∷ list_rules g.entries g.vars)

abbrev pub plain_task : Given → Task
plain_task g = record { vars = g.vars; budget = g.budget; limit = g.limit; formula = clauses g.entries }

-- ---- what is returned: a refused run returns zero counts

abbrev pub is_free : ℕ → Bool
is_free s = eqb s 1

abbrev pub is_forced : ℕ → Bool
is_forced s = leb 2 s

abbrev pub report_of_run : Ended → Report
report_of_run e =
    record {
      answer = e.answer;
      calls = length e.progress.rows;
      tries = e.progress.tries;
      forced = count is_forced e.progress.statuses;
      free = count is_free e.progress.statuses;
    }

abbrev pub report_if : Option Refusal → Task → Report
report_if none k = report_of_run (run k)
report_if (some a) k = record { answer = RunAnswer.Refused a; calls = 0; tries = 0; forced = 0; free = 0 }

unfoldable pub report_of : Given → Report
report_of g = report_if (refusal_of g) (task_of g)

-- ---- what the buffers hold: the first V elements, and of the log 6(V + 1) numbers; a refused run writes nothing, and the rest stays

abbrev pub status_if : Option Refusal → Task → List ℕ → List ℕ
status_if none k before = (run k).progress.statuses ++ drop k.vars before
status_if (some a) k before = before

unfoldable pub status_after : Given → List ℕ
status_after g = status_if (refusal_of g) (task_of g) g.status

abbrev pub calls_if : Option Refusal → Task → List ℕ → List ℕ
calls_if none k before = calls_of (run k).progress.records ++ drop k.vars before
calls_if (some a) k before = before

unfoldable pub calls_after : Given → List ℕ
calls_after g = calls_if (refusal_of g) (task_of g) g.calls

abbrev pub ways_if : Option Refusal → Task → List ℕ → List ℕ
ways_if none k before = ways_of (run k).progress.records ++ drop k.vars before
ways_if (some a) k before = before

unfoldable pub ways_after : Given → List ℕ
ways_after g = ways_if (refusal_of g) (task_of g) g.ways

abbrev pub hints_if : Option Refusal → Task → List ℕ → List ℕ
hints_if none k before = hints_of k ++ drop k.vars before
hints_if (some a) k before = before

unfoldable pub hints_after : Given → List ℕ
hints_after g = hints_if (refusal_of g) (task_of g) g.hints

abbrev pub row_numbers : Row → List ℕ
row_numbers r =
    r.call ∷ outcome_number r.outcome ∷ r.chunk ∷ r.by_compare ∷ r.by_flip ∷ r.tries ∷ []

-- a row for each call begun; rows not used are zero
abbrev pub log_of_rows : ℕ → List Row → List ℕ
log_of_rows vars rows = joined (map row_numbers rows) ++ replicate (log_length vars - 6 * length rows) 0

abbrev pub log_if : Option Refusal → Task → List ℕ → List ℕ
log_if none k before = log_of_rows k.vars (run k).progress.rows ++ drop (log_length k.vars) before
log_if (some a) k before = before

unfoldable pub log_after : Given → List ℕ
log_after g = log_if (refusal_of g) (task_of g) g.log

-- what a run promises of its result and of the buffers
pub record Runs (g : Given) (result : Report) (after : Buffers) : Type 0 where
  pub result_is : result ≡ report_of g
  pub status_is : after.status ≡ status_after g
  pub calls_are : after.calls ≡ calls_after g
  pub ways_are : after.ways ≡ ways_after g
  pub hints_are : after.hints ≡ hints_after g
  pub log_is : after.log ≡ log_after g
