-- docs/RULES.md, "What follows at once": the closing of the formula and the held literals, from nothing set, with its rounds. Assumes
-- nothing.
use Rattle.std.specs.Prelude.{◌≡◌, List, ◌++◌, ℕ, ℤ, drop, replicate}
use Rattle.std.proofs.Math.Option.{Option, none, some}
use Rattle.rules.specs.declared.Refusal.{Refusal}
use Rattle.rules.specs.declared.CloseAnswer.{CloseAnswer}
use Rattle.rules.specs.declared.CloseReport.{CloseReport}
use Rattle.rules.specs.Lists.{is_set, count}
use Rattle.rules.specs.Numbers.{refusal_number, refusal_place}
use Rattle.rules.specs.Meaning.{clauses}
use Rattle.rules.specs.Order.{SameRules, SameHeld}
use Rattle.rules.specs.Closing.{Closed, clash, closed, closing}
use Rattle.rules.specs.Rounds.{rounds}
use Rattle.rules.specs.Run.{blank}
use Rattle.rules.specs.Held.{with_held}
use Rattle.rules.specs.Setup.{SetupGiven, setup_given, setup_refusal}

-- ---- numbers and places of the answers

abbrev pub close_number : CloseAnswer → ℕ
close_number CloseAnswer.Closed = 0
close_number CloseAnswer.Clash = 20
close_number (CloseAnswer.Refused a) = refusal_number a

abbrev pub close_place : CloseAnswer → ℕ
close_place CloseAnswer.Closed = 0
close_place CloseAnswer.Clash = 0
close_place (CloseAnswer.Refused a) = refusal_place a

-- ---- what is given, and the buffer as it is lent

pub record CloseGiven : Type 0 where
  pub entries : List ℤ
  pub vars : ℕ
  pub held : List ℤ
  pub values : List ℕ

abbrev pub close_given : List ℤ → ℕ → List ℤ → List ℕ → CloseGiven
close_given es vars held values = record { entries = es; vars = vars; held = held; values = values }

-- it is refused as a setup is, which is lent the same buffer
abbrev pub close_setup : CloseGiven → SetupGiven
close_setup g = setup_given g.entries g.vars g.held 0 g.values

unfoldable pub close_refusal : CloseGiven → Option Refusal
close_refusal g = setup_refusal (close_setup g)

-- ---- the closing: a held literal is a clause of one literal, which a round sets

unfoldable pub closed_set : CloseGiven → Closed
closed_set g = closing (with_held (clauses g.entries) g.held) (blank g.vars)

unfoldable pub close_rounds : CloseGiven → ℕ
close_rounds g = rounds (with_held (clauses g.entries) g.held) (blank g.vars)

-- ---- what it says

abbrev pub close_answer : Closed → CloseAnswer
close_answer clash = CloseAnswer.Clash
close_answer (closed ws) = CloseAnswer.Closed

-- how many variables are set; after a clash none
abbrev pub set_by : Closed → ℕ
set_by clash = 0
set_by (closed ws) = count is_set ws

-- a byte a variable, 0 unset, 1 false, 2 true; after a clash as many zeros
abbrev pub close_values : ℕ → Closed → List ℕ
close_values vars clash = replicate vars 0
close_values vars (closed ws) = ws

abbrev pub close_report : Closed → ℕ → CloseReport
close_report c r = record { answer = close_answer c; rounds = r; set = set_by c }

-- ---- what is returned, and what the buffer holds: nothing is written where it is refused, and the rest stays

abbrev pub close_report_if : Option Refusal → Closed → ℕ → CloseReport
close_report_if none c r = close_report c r
close_report_if (some a) c r = record { answer = CloseAnswer.Refused a; rounds = 0; set = 0 }

unfoldable pub close_report_of : CloseGiven → CloseReport
close_report_of g = close_report_if (close_refusal g) (closed_set g) (close_rounds g)

abbrev pub close_values_if : Option Refusal → ℕ → Closed → List ℕ → List ℕ
close_values_if none vars c before = close_values vars c ++ drop vars before
close_values_if (some a) vars c before = before

unfoldable pub close_values_after : CloseGiven → List ℕ
close_values_after g = close_values_if (close_refusal g) g.vars (closed_set g) g.values

-- what is promised of the result and of the buffer
pub record Closes (g : CloseGiven) (result : CloseReport) (after : List ℕ) : Type 0 where
  pub result_is : result ≡ close_report_of g
  pub values_are : after ≡ close_values_after g

-- ---- what the theorems say

-- the same variables, the same clauses and the same held literals, each read as a set
pub record SameSets (g h : CloseGiven) : Type 0 where
  pub vars_same : g.vars ≡ h.vars
  pub rules_same : SameRules (clauses g.entries) (clauses h.entries)
  pub held_same : SameHeld g.held h.held
