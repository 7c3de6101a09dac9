-- docs/RULES.md, "A witness to see": the model of a call, the witness of a free variable, what is refused, returned and written. Assumes
-- nothing.
use Rattle.std.specs.Prelude.{◌≡◌, ◌≢◌, Bool, true, false, ◌||◌, List, [], ◌∷◌, ◌++◌, map, ℕ, zero, suc, pred, ◌≤◌, eqb, ltb, ℤ, length, get_or, take}
use Rattle.std.specs.Prelude.{drop, replicate}
use Rattle.std.proofs.Math.Option.{Option, none, some}
use Rattle.rules.specs.declared.Way.{Way}
use Rattle.rules.specs.declared.Record.{Record}
use Rattle.rules.specs.declared.Refusal.{Refusal}
use Rattle.rules.specs.declared.Report.{Report}
use Rattle.rules.specs.Lists.{count, first_of}
use Rattle.rules.specs.Numbers.{outcome_number}
use Rattle.rules.specs.Meaning.{Clause, Values, value_at, clauses, Model}
use Rattle.rules.specs.Records.{record_at, by_model}
use Rattle.rules.specs.Run.{Task, Row, Progress, status_at, literal_at, flipped, run}
use Rattle.rules.specs.Held.{with_held}
use Rattle.rules.specs.Answer.{Given, given, buffers, log_length, taking_rules, out_of_limits, report_if}
use Rattle.rules.specs.Models.{Witness, by_model_lem, by_flip}

-- ---- the model of a call, and the witness

abbrev pub says_model : Row → Bool
says_model r = eqb (outcome_number r.outcome) 1

-- the models are in the order of the calls that found them: that of call n stands behind those of the calls before it
abbrev pub model_of_call : List Row → List Values → ℕ → Values
model_of_call rows models n = get_or models (count says_model (take (pred n) rows)) []

-- compare: the model; flip: the model with the variable flipped
abbrev pub witness_by : Way → Values → ℕ → Values
witness_by Way.Open m i = m
witness_by Way.Compare m i = m
witness_by Way.Flip m i = flipped m i
witness_by Way.Chunk m i = m

-- the witness of the variable at an index, by its record
abbrev pub witness_of_record : Progress → Record → ℕ → Values
witness_of_record p r i = witness_by r.way (model_of_call p.rows p.models r.call) i

abbrev pub witness_at : Progress → ℕ → Values
witness_at p i = witness_of_record p (record_at p.records i) i

-- a variable, by its number, is free in a run if compare or flip settled it; 0 and numbers above V are not
abbrev pub free_in : Progress → ℕ → Bool
free_in p zero = false
free_in p (suc i) = by_model (record_at p.records i).way

-- ---- what is asked: a run, a variable, and the two buffers as they are lent

pub record Asked : Type 0 where
  pub entries : List ℤ
  pub vars : ℕ
  pub held : List ℤ
  pub budget : ℕ
  pub limit : ℕ
  pub variable : ℕ
  pub first : List ℤ
  pub witness : List ℤ

abbrev pub asked : List ℤ → ℕ → List ℤ → ℕ → ℕ → ℕ → List ℤ → List ℤ → Asked
asked es vars held budget limit variable first witness =
    record {
      entries = es;
      vars = vars;
      held = held;
      budget = budget;
      limit = limit;
      variable = variable;
      first = first;
      witness = witness;
    }

abbrev pub asked_task : Asked → Task
asked_task a = record { vars = a.vars; budget = a.budget; limit = a.limit; formula = with_held (clauses a.entries) a.held }

-- ---- refusals, in the order 10, 1, 11, 12, 15, 13, 14

abbrev pub few_literals : ℕ → ℕ → ℕ → Bool
few_literals vars first witness = ltb first vars || ltb witness vars

abbrev pub else_not_free : Option Refusal → Bool → Option Refusal
else_not_free (some r) free = some r
else_not_free none true = none
else_not_free none false = some Refusal.NotFree

unfoldable pub asked_refusal : Asked → Option Refusal
asked_refusal a =
    else_not_free
    (first_of
    (taking_rules (out_of_limits a.vars a.limit) (few_literals a.vars (length a.first) (length a.witness)) a.entries a.vars a.held))
    (free_in (run (asked_task a)).progress a.variable)

-- ---- what is returned, and what the buffers hold: V literals each, and the rest stays; what is refused writes nothing

unfoldable pub asked_report : Asked → Report
asked_report a = report_if (asked_refusal a) (asked_task a)

-- a literal for each variable, the first one at index i
abbrev pub literals_from : ℕ → Values → List ℤ
literals_from i [] = []
literals_from i (b ∷ m) = literal_at i b ∷ literals_from (suc i) m

abbrev pub literals_if : Option Refusal → ℕ → Values → List ℤ → List ℤ
literals_if none vars m before = literals_from 0 m ++ drop vars before
literals_if (some r) vars m before = before

unfoldable pub first_after : Asked → List ℤ
first_after a = literals_if (asked_refusal a) a.vars (run (asked_task a)).progress.first a.first

unfoldable pub witness_after : Asked → List ℤ
witness_after a = literals_if (asked_refusal a) a.vars (witness_at (run (asked_task a)).progress (pred a.variable)) a.witness

-- what is promised of the result and of both buffers
pub record Witnesses (a : Asked) (result : Report) (first witness : List ℤ) : Type 0 where
  pub result_is : result ≡ asked_report a
  pub first_is : first ≡ first_after a
  pub witness_is : witness ≡ witness_after a

-- ---- what theorems say

-- the values by which a witness of demand 3 shows that its variable is free
abbrev pub shown_by : {n : ℕ} {F : List Clause} {first : Values} {models : List Values} {i : ℕ} → Witness n F first models i → Values
shown_by (by_model_lem m h d) = m
shown_by {i = i} (by_flip m h x d) = flipped m i

-- what a run has to show for the variable at an index: two models that differ on it, the first one that the run found, and the witness
-- of demand 3
pub record PairAt (n : ℕ) (F : List Clause) (p : Progress) (i : ℕ) : Type 0 where
  pub first_model : Model n F p.first
  pub witness_model : Model n F (witness_at p i)
  pub differ : value_at (witness_at p i) i ≢ value_at p.first i
  pub rest : List Values
  pub models_are : p.models ≡ p.first ∷ rest
  pub witness : Witness n F p.first p.models i
  pub shown : shown_by witness ≡ witness_at p i

-- a variable is free in a run of so many variables, by its status
pub record FreeIn (vars : ℕ) (p : Progress) (variable : ℕ) : Type 0 where
  pub some : 1 ≤ variable
  pub most : variable ≤ vars
  pub free_here : status_at p.statuses (pred variable) ≡ 1

-- a run that is lent buffers as long as the two that are lent here, and the others as long as they must be
abbrev pub lent_for : Asked → Given
lent_for a =
    given a.entries a.vars a.held a.budget a.limit
    (buffers (replicate (length a.first) 0) (replicate (length a.witness) 0) (replicate a.vars 0) (replicate a.vars 0)
    (replicate (log_length a.vars) 0))

-- ---- a call made again: the statuses before call n are those that earlier calls settled

abbrev pub status_if_before : Bool → ℕ → ℕ
status_if_before true s = s
status_if_before false s = 0

abbrev pub statuses_before : ℕ → List Record → List ℕ
statuses_before n rs = map (λ (r : Record). status_if_before (ltb r.call n) r.status) rs
