-- docs/RULES.md, "One valid setup": the first call of a run, with its model as bits. Assumes nothing.
use Rattle.std.specs.Prelude.{◌≡◌, List, ◌++◌, map, ℕ, ltb, ℤ, length, drop, replicate}
use Rattle.std.proofs.Math.Option.{Option, none, some}
use Rattle.rules.specs.declared.Refusal.{Refusal}
use Rattle.rules.specs.declared.RunAnswer.{RunAnswer}
use Rattle.rules.specs.declared.Report.{Report}
use Rattle.rules.specs.Lists.{first_of}
use Rattle.rules.specs.Numbers.{max_vars}
use Rattle.rules.specs.Meaning.{Clause, Values, clauses, bit_of}
use Rattle.rules.specs.Models.{NotAfter}
use Rattle.rules.specs.Search.{Call, model, no_model, stopped, tries_of, call_on}
use Rattle.rules.specs.Run.{blank}
use Rattle.rules.specs.Held.{with_held, HeldModel}
use Rattle.rules.specs.Answer.{Given, log_length, taking_rules}

-- what is given, and the buffer as it is lent
pub record SetupGiven : Type 0 where
  pub entries : List ℤ
  pub vars : ℕ
  pub held : List ℤ
  pub budget : ℕ
  pub values : List ℕ

abbrev pub setup_given : List ℤ → ℕ → List ℤ → ℕ → List ℕ → SetupGiven
setup_given es vars held budget values = record { entries = es; vars = vars; held = held; budget = budget; values = values }

-- ---- refusals: 10 for V alone, 1 for the values, and then as for a run

unfoldable pub setup_refusal : SetupGiven → Option Refusal
setup_refusal g = first_of (taking_rules (ltb max_vars g.vars) (ltb (length g.values) g.vars) g.entries g.vars g.held)

-- the run that is refused for the same: the values in the place of the statuses, and nothing wrong with the rest
abbrev pub setup_run : SetupGiven → Given
setup_run g =
    record {
      entries = g.entries;
      vars = g.vars;
      held = g.held;
      budget = g.budget;
      limit = 1;
      status = g.values;
      calls = replicate g.vars 0;
      ways = replicate g.vars 0;
      hints = replicate g.vars 0;
      log = replicate (log_length g.vars) 0;
    }

-- ---- the call, and what its end says

-- from no value, on the formula and the held literals
unfoldable pub setup_call : SetupGiven → Call
setup_call g = call_on g.budget (with_held (clauses g.entries) g.held) (blank g.vars) 0

abbrev pub setup_answer : Call → RunAnswer
setup_answer (model m t) = RunAnswer.Settled
setup_answer (no_model t) = RunAnswer.NoModel
setup_answer (stopped t) = RunAnswer.Stopped

abbrev pub setup_report : Call → Report
setup_report c = record { answer = setup_answer c; calls = 1; tries = tries_of c; forced = 0; free = 0 }

-- the model's bits, or as many zeros as there are variables
abbrev pub setup_values : ℕ → Call → List ℕ
setup_values vars (model m t) = map bit_of m
setup_values vars (no_model t) = replicate vars 0
setup_values vars (stopped t) = replicate vars 0

-- ---- what is returned, and what the buffer holds: nothing is written where it is refused, and the rest stays

abbrev pub setup_report_if : Option Refusal → Call → Report
setup_report_if none c = setup_report c
setup_report_if (some a) c = record { answer = RunAnswer.Refused a; calls = 0; tries = 0; forced = 0; free = 0 }

unfoldable pub setup_report_of : SetupGiven → Report
setup_report_of g = setup_report_if (setup_refusal g) (setup_call g)

abbrev pub setup_values_if : Option Refusal → ℕ → Call → List ℕ → List ℕ
setup_values_if none vars c before = setup_values vars c ++ drop vars before
setup_values_if (some a) vars c before = before

unfoldable pub setup_values_after : SetupGiven → List ℕ
setup_values_after g = setup_values_if (setup_refusal g) g.vars (setup_call g) g.values

-- what is promised of the result and of the buffer
pub record SetsUp (g : SetupGiven) (result : Report) (after : List ℕ) : Type 0 where
  pub result_is : result ≡ setup_report_of g
  pub values_are : after ≡ setup_values_after g

-- ---- what the theorems say

-- the values are the bits of the first model of F that has every held literal
pub record FirstSetup (n : ℕ) (F : List Clause) (held : List ℤ) (values : List ℕ) : Type 0 where
  pub setup : Values
  pub is-model : HeldModel n F held setup
  pub is-first : (m : Values) → HeldModel n F held m → NotAfter setup m
  pub written : values ≡ map bit_of setup
