-- docs/RULES.md, "Why": small formulas as one computed table and one theorem. The buffers are lent just as long as they must be and full
-- of 7s, so that the table also shows what is written.
--
--   why_cases         what each of them gives
--
-- Assumes nothing.
use mathlib.Core.Path.{◌≡◌, refl}
use mathlib.Core.Bool.{Bool, true, ◌&&◌}
use mathlib.Core.List.{List, [], ◌∷◌, ◌++◌}
use Prim.Native.Nat.{ℕ, ◌-◌}
use lib.IntN.{ℤ, pos}
use lib.ListN.{length, replicate}
use Rattle.rules.specs.Lists.{all, eqs}
use Rattle.rules.specs.Numbers.{max_clauses}
use Rattle.rules.specs.Closing.{state_of, close_in, closing}
use Rattle.rules.specs.Search.{go_on, call_on}
use Rattle.rules.specs.Why.{WhyGiven, why_number, why_place, plain_call, false_call, visits, why, why_refusal, why_report_of, marks_after, why_values_after}
use Rattle.rules.proofs.Starred.{neg, clause, unit}

-- ---- a line of the table: V, budget, literal, entries; then answer, place, calls and tries; the first marks; the values

pub record Case : Type 0 where
  pub vars : ℕ
  pub budget : ℕ
  pub literal : ℤ
  pub entries : List ℤ
  pub numbers : List ℕ
  pub marks : List ℕ
  pub values : List ℕ

abbrev line : ℕ → ℕ → ℤ → List ℤ → List ℕ → List ℕ → List ℕ → Case
line v b l es ns ms vs = record { vars = v; budget = b; literal = l; entries = es; numbers = ns; marks = ms; values = vs }

-- answer, calls, tries; the place is 0 in every case here
abbrev returns : ℕ → ℕ → ℕ → List ℕ
returns answer calls tries = answer ∷ 0 ∷ calls ∷ tries ∷ []

abbrev given : Case → WhyGiven
given c =
    record {
      entries = c.entries;
      vars = c.vars;
      literal = c.literal;
      budget = c.budget;
      marks = replicate max_clauses 7;
      values = replicate c.vars 7;
    }

abbrev numbers_of : Case → List ℕ
numbers_of c =
    let r = why_report_of (given c) in why_number r.answer ∷ why_place r.answer ∷ r.calls ∷ r.tries ∷ []

abbrev pub passes : Case → Bool
passes c =
    eqs (numbers_of c) c.numbers &&
    (eqs (marks_after (given c)) (c.marks ++ replicate (max_clauses - length c.marks) 0) && eqs (why_values_after (given c)) c.values)

abbrev pub cases : List Case
cases =
    -- `1 0` and also `1 1 0`
    line 1 100 (pos 1) (unit (pos 1)) (returns 0 3 0) (1 ∷ []) (0 ∷ []) ∷
    line 1 100 (pos 1) (clause (pos 1 ∷ pos 1 ∷ [])) (returns 0 3 0) (1 ∷ []) (0 ∷ []) ∷
    -- `1 2 0 1 -2 0`: both are needed
    line 2 100 (pos 1) (clause (pos 1 ∷ pos 2 ∷ []) ++ clause (pos 1 ∷ neg 2 ∷ [])) (returns 0 4 3) (1 ∷ 1 ∷ []) (0 ∷ 0 ∷ []) ∷
    -- a chain, `1 0 -1 2 0 -2 3 0` for 3: all of it is needed, and it is found with no try
    line 3 0 (pos 3) (unit (pos 1) ++ clause (neg 1 ∷ pos 2 ∷ []) ++ clause (neg 2 ∷ pos 3 ∷ [])) (returns 0 5 0) (1 ∷ 1 ∷ 1 ∷ []) (0 ∷ 0 ∷ 0 ∷ []) ∷
    -- two separate reasons, `1 0 -1 3 0 2 0 -2 3 0` for 3: the earlier one is kept
    line 3 100 (pos 3) (unit (pos 1) ++ clause (neg 1 ∷ pos 3 ∷ []) ++ unit (pos 2) ++ clause (neg 2 ∷ pos 3 ∷ [])) (returns 0 6 2)
    (1 ∷ 1 ∷ 0 ∷ 0 ∷ []) (0 ∷ 0 ∷ 0 ∷ []) ∷
    -- the same with a budget of 1: stopped while the clauses are visited, with nothing marked
    line 3 1 (pos 3) (unit (pos 1) ++ clause (neg 1 ∷ pos 3 ∷ []) ++ unit (pos 2) ++ clause (neg 2 ∷ pos 3 ∷ [])) (returns 21 6 1)
    [] (0 ∷ 0 ∷ 0 ∷ []) ∷
    -- `1 2 0` forces neither 1 nor -1
    line 2 100 (pos 1) (clause (pos 1 ∷ pos 2 ∷ [])) (returns 22 2 1) [] (0 ∷ 1 ∷ []) ∷
    line 2 100 (neg 1) (clause (pos 1 ∷ pos 2 ∷ [])) (returns 22 2 2) [] (1 ∷ 0 ∷ []) ∷
    -- no model
    line 1 100 (pos 1) (unit (pos 1) ++ unit (neg 1)) (returns 20 1 0) [] (0 ∷ []) ∷
    -- no clause and budget 0
    line 1 0 (pos 1) [] (returns 21 1 0) [] (0 ∷ []) ∷
    -- literal 0, and one above V: refused, and nothing is written
    line 1 100 (pos 0) [] (returns 13 0 0) (replicate max_clauses 7) (7 ∷ []) ∷
    line 1 100 (neg 2) [] (returns 13 0 0) (replicate max_clauses 7) (7 ∷ []) ∷
    []

pub why_cases : all passes cases ≡ true
unfolding state_of close_in closing go_on call_on plain_call false_call visits why why_refusal why_report_of marks_after why_values_after
why_cases = refl
