-- The first call of a run alone as code makes it, and what it leaves. Assumes nothing.
use Rattle.std.specs.Prelude.{◌≡◌, List, map, ℕ, ◌+◌, ◌≤◌, ℤ, length}
use Rattle.rules.specs.declared.Outcome.{Outcome}
use Rattle.rules.specs.declared.Report.{Report}
use Rattle.rules.specs.Numbers.{max_clauses, max_entries, max_held}
use Rattle.rules.specs.Meaning.{Values, bit_of, clauses}
use Rattle.rules.specs.Setup.{setup_report, setup_values}
use Rattle.formula.specs.Starts.{starts_of}
use Rattle.formula.specs.Formula.{Formula}
use Rattle.search.specs.declared.call.CallEnd.{CallEnd}
use Rattle.calls.specs.After.{answer_of}
use Rattle.backbone.specs.First.{first_on}

-- a model's values as bits, anything else as it is
abbrev pub bits_if : Outcome → Values → Values
bits_if Outcome.Model vs = map bit_of vs
bits_if Outcome.NoModel vs = vs
bits_if Outcome.Stopped vs = vs

-- what the end of a call says
pub record Told (end : CallEnd) (before : Values) (result : Report) (after : Values) : Type 0 where
  pub result_is : result ≡ record { answer = answer_of end.outcome; calls = 1; tries = end.meter.spent; forced = 0; free = 0 }
  pub after_is : after ≡ bits_if end.outcome before

-- a list that no rule refuses, with held literals behind it that none does
pub record SetupTaken (vars : ℕ) (es : List ℤ) : Type 0 where
  pub formula : Formula vars es (starts_of es)
  pub entries_most : length es ≤ max_entries + (max_held + max_held)
  pub clauses_most : length (clauses es) ≤ max_clauses + max_held

-- what the first call on a list leaves
pub record SetupDone (es : List ℤ) (vars budget : ℕ) (result : Report) (after : List ℕ) : Type 0 where
  pub result_is : result ≡ setup_report (first_on es vars budget)
  pub values_are : after ≡ setup_values vars (first_on es vars budget)
