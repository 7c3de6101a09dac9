-- docs/RULES.md, "Small formulas": the starred cases as one computed table and one theorem. The buffers are lent just as long as they
-- must be and full of 7s, so that the table also shows what is written. proofs/AnswerCases has further cases of the same form.
--
--   Case, line, passes            a line of a table, and that the definitions give what it says
--   neg, clause, unit, returns, row     what a line is written with
--   starred                       the cases that the rules mark
--
-- Assumes nothing.
use mathlib.Core.Path.{◌≡◌, refl}
use mathlib.Core.Bool.{Bool, true, ◌&&◌}
use mathlib.Core.List.{List, [], ◌∷◌, ◌++◌}
use Prim.Native.Nat.{ℕ, ◌-◌, pred}
use lib.IntN.{ℤ, pos, negsuc}
use lib.ListN.{length, replicate}
use Rattle.rules.specs.Lists.{all, eqs, joined}
use Rattle.rules.specs.Numbers.{run_number, run_place}
use Rattle.rules.specs.Closing.{state_of, close_in, closing}
use Rattle.rules.specs.Search.{go_on, call_on}
use Rattle.rules.specs.Run.{chunk_call, chunks_in, chunks, first_call, run}
use Rattle.rules.specs.Answer.{Given, log_length, refusal_of, report_of, status_after, log_after}

-- ---- a line of a table: V, budget, chunk limit, entries; then the six numbers returned; the statuses; the rows of the log

pub record Case : Type 0 where
  pub vars : ℕ
  pub budget : ℕ
  pub limit : ℕ
  pub entries : List ℤ
  pub numbers : List ℕ
  pub statuses : List ℕ
  pub rows : List (List ℕ)

abbrev pub line : ℕ → ℕ → ℕ → List ℤ → List ℕ → List ℕ → List (List ℕ) → Case
line v b l es ns ss rs = record { vars = v; budget = b; limit = l; entries = es; numbers = ns; statuses = ss; rows = rs }

-- a negative literal
abbrev pub neg : ℕ → ℤ
neg v = negsuc (pred v)

-- literals and the closing 0
abbrev pub clause : List ℤ → List ℤ
clause ls = ls ++ pos 0 ∷ []

-- a clause of one literal
abbrev pub unit : ℤ → List ℤ
unit l = clause (l ∷ [])

-- answer, calls, tries, forced, free; the place behind the answer is 0 in every case here
abbrev pub returns : ℕ → ℕ → ℕ → ℕ → ℕ → List ℕ
returns answer calls tries forced free = answer ∷ 0 ∷ calls ∷ tries ∷ forced ∷ free ∷ []

-- call, outcome, chunk, dropped by compare, dropped by flip, tries
abbrev pub row : ℕ → ℕ → ℕ → ℕ → ℕ → ℕ → List ℕ
row n o k c f t = n ∷ o ∷ k ∷ c ∷ f ∷ t ∷ []

abbrev pub given : Case → Given
given c =
    record {
      entries = c.entries;
      vars = c.vars;
      held = [];
      budget = c.budget;
      limit = c.limit;
      status = replicate c.vars 7;
      calls = replicate c.vars 7;
      ways = replicate c.vars 7;
      hints = replicate c.vars 7;
      log = replicate (log_length c.vars) 7;
    }

abbrev numbers_of : Case → List ℕ
numbers_of c =
    let r = report_of (given c) in
    run_number r.answer ∷ run_place r.answer ∷ r.calls ∷ r.tries ∷ r.forced ∷ r.free ∷ []

-- rows not used are zero
abbrev log_of : Case → List ℕ
log_of c = joined c.rows ++ replicate (log_length c.vars - length (joined c.rows)) 0

abbrev pub passes : Case → Bool
passes c =
    eqs (numbers_of c) c.numbers &&
    (eqs (status_after (given c)) c.statuses && eqs (log_after (given c)) (log_of c))

-- ---- the starred cases: budget 100 and chunk limit 2 unless said

abbrev pub cases : List Case
cases =
    -- 0, none
    line 0 100 2 [] (returns 0 1 0 0 0) [] (row 1 1 0 0 0 0 ∷ []) ∷
    -- 0, `0`
    line 0 100 2 (clause []) (returns 20 1 0 0 0) [] (row 1 2 0 0 0 0 ∷ []) ∷
    -- 1, none
    line 1 100 2 [] (returns 0 1 1 0 1) (1 ∷ []) (row 1 1 0 0 1 1 ∷ []) ∷
    -- 1, none, budget 0
    line 1 0 2 [] (returns 21 1 0 0 0) (0 ∷ []) (row 1 3 0 0 0 0 ∷ []) ∷
    -- 1, `1 0` and also `1 1 0`
    line 1 100 2 (unit (pos 1)) (returns 0 2 0 1 0) (2 ∷ []) (row 1 1 0 0 0 0 ∷ row 2 2 1 0 0 0 ∷ []) ∷
    line 1 100 2 (clause (pos 1 ∷ pos 1 ∷ [])) (returns 0 2 0 1 0) (2 ∷ []) (row 1 1 0 0 0 0 ∷ row 2 2 1 0 0 0 ∷ []) ∷
    -- 1, `1 -1 0`
    line 1 100 2 (clause (pos 1 ∷ neg 1 ∷ [])) (returns 0 1 1 0 1) (1 ∷ []) (row 1 1 0 0 1 1 ∷ []) ∷
    -- 1, `1 0 -1 0`
    line 1 100 2 (unit (pos 1) ++ unit (neg 1)) (returns 20 1 0 0 0) (0 ∷ []) (row 1 2 0 0 0 0 ∷ []) ∷
    -- 2, `1 2 0 -1 -2 0`
    line 2 100 2 (clause (pos 1 ∷ pos 2 ∷ []) ++ clause (neg 1 ∷ neg 2 ∷ [])) (returns 0 2 1 0 2) (1 ∷ 1 ∷ []) (row 1 1 0 0 0 1 ∷ row 2 1 1 2 0 0 ∷ []) ∷
    -- 2, `1 2 0 1 -2 0`
    line 2 100 2 (clause (pos 1 ∷ pos 2 ∷ []) ++ clause (pos 1 ∷ neg 2 ∷ [])) (returns 0 2 3 1 1) (2 ∷ 1 ∷ []) (row 1 1 0 0 1 3 ∷ row 2 2 1 0 0 0 ∷ []) ∷
    -- 3, `1 0 2 0 3 0`
    line 3 100 2 (unit (pos 1) ++ unit (pos 2) ++ unit (pos 3)) (returns 0 3 0 3 0) (2 ∷ 2 ∷ 2 ∷ [])
    (row 1 1 0 0 0 0 ∷ row 2 2 1 0 0 0 ∷ row 3 2 2 0 0 0 ∷ []) ∷
    -- 3, `1 2 3 0`
    line 3 100 2 (clause (pos 1 ∷ pos 2 ∷ pos 3 ∷ [])) (returns 0 2 3 0 3) (1 ∷ 1 ∷ 1 ∷ []) (row 1 1 0 0 2 2 ∷ row 2 1 1 1 0 1 ∷ []) ∷
    -- 3, `1 2 3 0`, budget 2
    line 3 2 2 (clause (pos 1 ∷ pos 2 ∷ pos 3 ∷ [])) (returns 21 2 2 0 2) (1 ∷ 1 ∷ 0 ∷ []) (row 1 1 0 0 2 2 ∷ row 2 3 1 0 0 0 ∷ []) ∷
    []

pub starred : all passes cases ≡ true
unfolding state_of close_in closing go_on call_on chunk_call chunks_in chunks first_call run refusal_of report_of status_after log_after
starred = refl
