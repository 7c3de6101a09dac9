-- What is answered for an accepted list: the run, and the two models. Assumes nothing.
use Rattle.std.specs.Prelude.{◌≡◌, Bool, false, ◌||◌, List, ℕ, zero, suc, pred, ◌+◌, ◌-◌, ◌≤◌, ◌<◌, eqb, ℤ, length, get_or}
use Rattle.rules.specs.declared.RunAnswer.{RunAnswer}
use Rattle.rules.specs.declared.Refusal.{Refusal}
use Rattle.rules.specs.declared.Report.{Report}
use Rattle.rules.specs.Numbers.{max_vars, max_clauses, max_entries, max_held}
use Rattle.rules.specs.Meaning.{Values, clauses}
use Rattle.rules.specs.Records.{ways_of}
use Rattle.rules.specs.Run.{flipped, run}
use Rattle.rules.specs.Answer.{report_of_run}
use Rattle.rules.specs.Witness.{free_in, witness_at, literals_from}
use Rattle.formula.specs.Starts.{starts_of}
use Rattle.formula.specs.Formula.{Formula}
use Rattle.calls.specs.declared.next.Limits.{Limits}
use Rattle.calls.specs.Next.{Allowed, task}
use Rattle.backbone.specs.First.{ListTaken}
use Rattle.witness.specs.Again.{CallKnown}

-- compare or flip, by its byte
abbrev pub is_model_way : ℕ → Bool
is_model_way w = eqb w 1 || eqb w 2

-- a variable is free by the ways
abbrev pub free_by : List ℕ → ℕ → Bool
free_by ws zero = false
free_by ws (suc i) = is_model_way (get_or ws i 0)

-- the witness by the byte of the way
abbrev pub way_witness : ℕ → Values → ℕ → Values
way_witness zero m i = m
way_witness (suc zero) m i = m
way_witness (suc (suc zero)) m i = flipped m i
way_witness (suc (suc (suc w))) m i = m

abbrev pub not_free : Report
not_free = record { answer = RunAnswer.Refused Refusal.NotFree; calls = 0; tries = 0; forced = 0; free = 0 }

-- the first model of the run, and the witness of the variable
pub record ModelsPut (es : List ℤ) (limits : Limits) (vars variable : ℕ) (first witness : List ℤ) : Type 0 where
  pub first_is : first ≡ literals_from 0 (run (task es vars limits)).progress.first
  pub witness_is : witness ≡ literals_from 0 (witness_at (run (task es vars limits)).progress (pred variable))

-- the variable is free: both models, and what the run returns; or it is not, and nothing is written
pub data Answered (es : List ℤ) (limits : Limits) (vars variable : ℕ) (first witness : List ℤ) : Report → List ℤ → List ℤ → Type 0 where
  shown : free_in (run (task es vars limits)).progress variable ≡ Bool.true
      → Answered es limits vars variable first witness (report_of_run (run (task es vars limits)))
      (literals_from 0 (run (task es vars limits)).progress.first) (literals_from 0 (witness_at (run (task es vars limits)).progress (pred variable)))
  not_free_lem : free_in (run (task es vars limits)).progress variable ≡ false → Answered es limits vars variable first witness not_free first witness

-- ---- what is required

-- a model, and as much room as it has variables
pub record LiteralsOver (m : Values) (out : List ℤ) : Type 0 where
  pub len : length m ≡ length out
  pub vars_fit : length out ≤ max_vars

-- the same, and an index within
pub record WitnessOver (m : Values) (i : ℕ) (out : List ℤ) : Type 0 where
  pub over : LiteralsOver m out
  pub within : i < length m

-- the run has left the variable free, and there is room for both models
pub record FreeKnown (es : List ℤ) (limits : Limits) (variable : ℕ) (model : Values) (status calls ways log : List ℕ) (values : Values)
    (first witness : List ℤ) : Type 0 where
  pub call : CallKnown es limits model status calls log values (get_or calls (variable - 1) 0)
  pub some : 1 ≤ variable
  pub within : variable - 1 < length status
  pub ways_are : ways ≡ ways_of (run (task es (length status) limits)).progress.records
  pub first_len : length first ≡ length status
  pub witness_len : length witness ≡ length status

-- a list that no rule refuses, with held literals behind it, limits that none does, and two buffers for its variables
pub record AskedOver (es : List ℤ) (first witness : List ℤ) (limits : Limits) : Type 0 where
  pub formula : Formula (length first) es (starts_of es)
  pub entries_most : length es ≤ max_entries + (max_held + max_held)
  pub clauses_most : length (clauses es) ≤ max_clauses + max_held
  pub witness_len : length witness ≡ length first
  pub allowed : Allowed limits

-- and the buffers of a run
pub record RunOver (es : List ℤ) (model : Values) (status calls ways hints log : List ℕ) (values : Values) (first witness : List ℤ) (limits : Limits)
    : Type 0 where
  pub taken : ListTaken es model status calls ways hints log limits
  pub values_len : length values ≡ length status
  pub first_len : length first ≡ length status
  pub witness_len : length witness ≡ length status
