-- docs/RULES.md, "Why": which clauses alone force a literal. A first call on the formula, a second with the literal false, then one
-- for each clause, from the last to the first, that asks whether it can be left out. Assumes nothing.
use Rattle.std.specs.Prelude.{◌≡◌, ◌⊎◌, Bool, false, ◌||◌, List, [], ◌∷◌, ◌++◌, map, ℕ, zero, suc, ◌-◌, ◌≤◌, ◌<◌, ltb, ℤ, length, drop, replicate, set}
use Rattle.std.proofs.Math.Option.{Option, none, some}
use Rattle.rules.specs.declared.Refusal.{Refusal}
use Rattle.rules.specs.declared.WhyAnswer.{WhyAnswer}
use Rattle.rules.specs.declared.WhyReport.{WhyReport}
use Rattle.rules.specs.Lists.{Check, check, first_of}
use Rattle.rules.specs.Numbers.{max_vars, max_clauses, refusal_number, refusal_place}
use Rattle.rules.specs.Meaning.{Clause, Values, var_of, negated, clauses, bit_of, is_true, LitUpTo, Model}
use Rattle.rules.specs.Search.{Call, model, no_model, stopped, call_on}
use Rattle.rules.specs.Run.{blank}
use Rattle.rules.specs.Held.{is_no_literal}
use Rattle.rules.specs.Answer.{Given, taking_rules}
use Rattle.rules.specs.RunRefusals.{Accepted, RunRefuses, list_alone}

-- ---- numbers and places of the answers

abbrev pub why_number : WhyAnswer → ℕ
why_number WhyAnswer.Kept = 0
why_number WhyAnswer.NoModel = 20
why_number WhyAnswer.Stopped = 21
why_number WhyAnswer.NotForced = 22
why_number (WhyAnswer.Refused a) = refusal_number a

abbrev pub why_place : WhyAnswer → ℕ
why_place WhyAnswer.Kept = 0
why_place WhyAnswer.NoModel = 0
why_place WhyAnswer.Stopped = 0
why_place WhyAnswer.NotForced = 0
why_place (WhyAnswer.Refused a) = refusal_place a

-- ---- the calls

-- why is the literal forced by the formula?
pub record Question : Type 0 where
  pub vars : ℕ
  pub budget : ℕ
  pub literal : ℤ
  pub formula : List Clause

-- the clauses whose mark is not 0: a mark for each clause, in order
abbrev pub marked : List ℕ → List Clause → List Clause
marked [] F = []
marked (m ∷ ms) [] = []
marked (zero ∷ ms) (cl ∷ F) = marked ms F
marked (suc m ∷ ms) (cl ∷ F) = cl ∷ marked ms F

-- a call on the formula alone, and one on clauses F with the literal false: its negation is the clause behind them
unfoldable pub plain_call : Question → Call
plain_call q = call_on q.budget q.formula (blank q.vars) 0

unfoldable pub false_call : Question → List Clause → ℕ → Call
false_call q F t = call_on q.budget (F ++ (negated q.literal ∷ []) ∷ []) (blank q.vars) t

-- ---- the answer, with what is marked, the values, the calls begun and the tries

pub record WhyEnded : Type 0 where
  pub answer : WhyAnswer
  pub marks : List ℕ
  pub values : List ℕ
  pub calls : ℕ
  pub tries : ℕ

-- a mark for each of as many clauses as there may be: 1 for the first n
abbrev pub first_marks : ℕ → List ℕ
first_marks n = replicate n 1 ++ replicate (max_clauses - n) 0

abbrev pub no_marks : List ℕ
no_marks = replicate max_clauses 0

abbrev pub no_values : Question → List ℕ
no_values q = replicate q.vars 0

abbrev pub why_ended : WhyAnswer → List ℕ → List ℕ → ℕ → ℕ → WhyEnded
why_ended a ms vs calls t = record { answer = a; marks = ms; values = vs; calls = calls; tries = t }

-- ---- the visit of the clauses, from the last to the first

-- where no model is found without it the clause goes, where one is found it is kept
abbrev pub on_visit : Call → Question → ℕ → List ℕ → ℕ → (List ℕ → ℕ → WhyEnded) → WhyEnded
on_visit (model m t) q n ms calls next = next ms t
on_visit (no_model t) q n ms calls next = next (set ms n 0) t
on_visit (stopped t) q n ms calls next = why_ended WhyAnswer.Stopped no_marks (no_values q) calls t

-- the first n clauses are not visited yet; the next is the one at index n - 1
unfoldable pub visits : ℕ → Question → List ℕ → ℕ → ℕ → WhyEnded
visits zero q ms calls t = why_ended WhyAnswer.Kept ms (no_values q) calls t
visits (suc n) q ms calls t =
    on_visit (false_call q (marked (set ms n 0) q.formula) t) q n ms (suc calls) (λ ks u. visits n q ks (suc calls) u)

-- ---- the whole

abbrev pub on_second : Call → Question → WhyEnded
on_second (model m t) q = why_ended WhyAnswer.NotForced no_marks (map bit_of m) 2 t
on_second (no_model t) q = visits (length q.formula) q (first_marks (length q.formula)) 2 t
on_second (stopped t) q = why_ended WhyAnswer.Stopped no_marks (no_values q) 2 t

abbrev pub on_plain : Call → Question → WhyEnded
on_plain (model m t) q = on_second (false_call q q.formula t) q
on_plain (no_model t) q = why_ended WhyAnswer.NoModel no_marks (no_values q) 1 t
on_plain (stopped t) q = why_ended WhyAnswer.Stopped no_marks (no_values q) 1 t

unfoldable pub why : Question → WhyEnded
why q = on_plain (plain_call q) q

-- ---- what is given, and the refusals in the order 10, 1, 11, 12, 13

pub record WhyGiven : Type 0 where
  pub entries : List ℤ
  pub vars : ℕ
  pub literal : ℤ
  pub budget : ℕ
  pub marks : List ℕ
  pub values : List ℕ

abbrev pub why_given : List ℤ → ℕ → ℤ → ℕ → List ℕ → List ℕ → WhyGiven
why_given es vars l budget marks values =
    record { entries = es; vars = vars; literal = l; budget = budget; marks = marks; values = values }

abbrev pub question_of : WhyGiven → Question
question_of g = record { vars = g.vars; budget = g.budget; literal = g.literal; formula = clauses g.entries }

-- 1, by the lengths of the buffers: a mark for each of 1,024 clauses, a value for each variable
abbrev pub why_short : ℕ → ℕ → ℕ → Bool
why_short vars marks values = ltb marks max_clauses || ltb values vars

-- 13: the literal 0, and one above V
abbrev pub literal_rules : ℤ → ℕ → List (Check Refusal)
literal_rules l vars = check (is_no_literal vars l) (Refusal.BadLiteral 0) ∷ []

abbrev pub why_rules : List ℤ → ℕ → ℤ → ℕ → ℕ → List (Check Refusal)
why_rules es vars l marks values = taking_rules (ltb max_vars vars) (why_short vars marks values) es vars [] ++ literal_rules l vars

unfoldable pub why_refusal : WhyGiven → Option Refusal
why_refusal g = first_of (why_rules g.entries g.vars g.literal (length g.marks) (length g.values))

-- ---- what is returned, and what both buffers hold: nothing is written where it is refused, and the rest stays

abbrev pub why_report_if : Option Refusal → Question → WhyReport
why_report_if none q = record { answer = (why q).answer; calls = (why q).calls; tries = (why q).tries }
why_report_if (some a) q = record { answer = WhyAnswer.Refused a; calls = 0; tries = 0 }

unfoldable pub why_report_of : WhyGiven → WhyReport
why_report_of g = why_report_if (why_refusal g) (question_of g)

abbrev pub marks_if : Option Refusal → Question → List ℕ → List ℕ
marks_if none q before = (why q).marks ++ drop max_clauses before
marks_if (some a) q before = before

unfoldable pub marks_after : WhyGiven → List ℕ
marks_after g = marks_if (why_refusal g) (question_of g) g.marks

abbrev pub values_if : Option Refusal → Question → List ℕ → List ℕ
values_if none q before = (why q).values ++ drop q.vars before
values_if (some a) q before = before

unfoldable pub why_values_after : WhyGiven → List ℕ
why_values_after g = values_if (why_refusal g) (question_of g) g.values

-- what is promised of the result and of both buffers
pub record Explains (g : WhyGiven) (result : WhyReport) (marks : List ℕ) (values : List ℕ) : Type 0 where
  pub result_is : result ≡ why_report_of g
  pub marks_are : marks ≡ marks_after g
  pub values_are : values ≡ why_values_after g

-- ---- what the theorems say

-- a model of F that has l false
pub record FalseModel (n : ℕ) (F : List Clause) (l : ℤ) (m : Values) : Type 0 where
  pub is-model : Model n F m
  pub false_here : is_true m l ≡ false

-- not 10, nor 1
pub record WhyLent (g : WhyGiven) : Type 0 where
  pub vars_fit : g.vars ≤ max_vars
  pub marks_fit : max_clauses ≤ length g.marks
  pub values_fit : g.vars ≤ length g.values

-- a run of the list alone
abbrev pub list_only : WhyGiven → Given
list_only g = list_alone g.entries g.vars

-- nothing is wrong
pub record WhyAccepted (g : WhyGiven) : Type 0 where
  pub lent : WhyLent g
  pub list : Accepted (list_only g)
  pub literal_up_to : LitUpTo g.vars g.literal

pub data WhyRefuses (g : WhyGiven) : Refusal → Type 0 where
  -- 10
  many_vars : max_vars < g.vars → WhyRefuses g Refusal.BadLimits
  -- 1
  short_buffer : g.vars ≤ max_vars → (length g.marks < max_clauses) ⊎ (length g.values < g.vars) → WhyRefuses g Refusal.ShortBuffer
  -- 11 and 12
  bad_list : WhyLent g → (a : Refusal) → RunRefuses (list_only g) a → WhyRefuses g a
  -- 13
  bad_literal : WhyLent g → Accepted (list_only g) → (var_of g.literal ≡ 0) ⊎ (g.vars < var_of g.literal) → WhyRefuses g (Refusal.BadLiteral 0)
