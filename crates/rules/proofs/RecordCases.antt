-- docs/RULES.md, "Small formulas", with the calls and ways of their variables: the cases of proofs/Starred and proofs/AnswerCases, as one
-- computed table and one theorem. The buffers are full of 7s before.
--
--   Line, line, passes, all_pass     a line of the table, and that the definitions give what it says
--   recorded_cases     the definitions give the calls and ways that each line says
--
-- Assumes nothing.
use mathlib.Core.Path.{◌≡◌, refl}
use mathlib.Core.Bool.{Bool, true, false, ◌&&◌}
use mathlib.Core.List.{List, [], ◌∷◌, ◌++◌}
use Prim.Native.Nat.{ℕ}
use Rattle.rules.specs.Lists.{eqs}
use Rattle.rules.specs.Closing.{state_of, close_in, closing}
use Rattle.rules.specs.Search.{go_on, call_on}
use Rattle.rules.specs.Run.{chunk_call, chunks_in, chunks, first_call, run}
use Rattle.rules.specs.Answer.{refusal_of, calls_after, ways_after}
use Rattle.rules.proofs.Starred.{Case, given, cases}
use Rattle.rules.proofs.AnswerCases.{further}

-- what a line says: the calls of the variables, and the ways
pub record Line : Type 0 where
  pub calls : List ℕ
  pub ways : List ℕ

abbrev pub line : List ℕ → List ℕ → Line
line cs ws = record { calls = cs; ways = ws }

abbrev pub passes : Case → Line → Bool
passes c l = eqs (calls_after (given c)) l.calls && eqs (ways_after (given c)) l.ways

-- each case with its line, and as many of the one as of the other
abbrev pub all_pass : List Case → List Line → Bool
all_pass [] [] = true
all_pass [] (l ∷ ls) = false
all_pass (c ∷ cs) [] = false
all_pass (c ∷ cs) (l ∷ ls) = passes c l && all_pass cs ls

abbrev pub lines : List Line
lines =
    -- 0, none
    line [] [] ∷
    -- 0, `0`
    line [] [] ∷
    -- 1, none
    line (1 ∷ []) (2 ∷ []) ∷
    -- 1, none, budget 0
    line (0 ∷ []) (0 ∷ []) ∷
    -- 1, `1 0` and also `1 1 0`
    line (2 ∷ []) (3 ∷ []) ∷
    line (2 ∷ []) (3 ∷ []) ∷
    -- 1, `1 -1 0`
    line (1 ∷ []) (2 ∷ []) ∷
    -- 1, `1 0 -1 0`
    line (0 ∷ []) (0 ∷ []) ∷
    -- 2, `1 2 0 -1 -2 0`
    line (2 ∷ 2 ∷ []) (1 ∷ 1 ∷ []) ∷
    -- 2, `1 2 0 1 -2 0`
    line (2 ∷ 1 ∷ []) (3 ∷ 2 ∷ []) ∷
    -- 3, `1 0 2 0 3 0`
    line (2 ∷ 3 ∷ 3 ∷ []) (3 ∷ 3 ∷ 3 ∷ []) ∷
    -- 3, `1 2 3 0`
    line (1 ∷ 1 ∷ 2 ∷ []) (2 ∷ 2 ∷ 1 ∷ []) ∷
    -- 3, `1 2 3 0`, budget 2
    line (1 ∷ 1 ∷ 0 ∷ []) (2 ∷ 2 ∷ 0 ∷ []) ∷
    []

abbrev pub further_lines : List Line
further_lines =
    -- `1 0 2 0 3 4 0 -3 -4 0`
    line (2 ∷ 4 ∷ 3 ∷ 3 ∷ []) (3 ∷ 3 ∷ 1 ∷ 1 ∷ []) ∷
    -- `1 0 2 0 3 0`, limit 1
    line (2 ∷ 3 ∷ 4 ∷ []) (3 ∷ 3 ∷ 3 ∷ []) ∷
    -- `1 0 2 0 3 0 4 0 5 0 6 0 7 0`, limit 4
    line (2 ∷ 3 ∷ 3 ∷ 4 ∷ 4 ∷ 4 ∷ 4 ∷ []) (3 ∷ 3 ∷ 3 ∷ 3 ∷ 3 ∷ 3 ∷ 3 ∷ []) ∷
    -- `1 0 2 0 3 0 4 0 5 0 6 0`
    line (2 ∷ 3 ∷ 3 ∷ 4 ∷ 4 ∷ 5 ∷ []) (3 ∷ 3 ∷ 3 ∷ 3 ∷ 3 ∷ 3 ∷ []) ∷
    -- `1 0 2 0 3 0 4 5 0 -4 -5 0 6 0 7 0`, limit 4
    line (2 ∷ 3 ∷ 3 ∷ 4 ∷ 4 ∷ 5 ∷ 6 ∷ []) (3 ∷ 3 ∷ 3 ∷ 1 ∷ 1 ∷ 3 ∷ 3 ∷ []) ∷
    -- `1 2 0 1 -2 0 -1 3 4 0 -1 3 -4 0`
    line (2 ∷ 1 ∷ 3 ∷ 1 ∷ []) (3 ∷ 2 ∷ 3 ∷ 2 ∷ []) ∷
    -- `1 2 0 -1 -2 0 3 0`
    line (2 ∷ 2 ∷ 3 ∷ []) (1 ∷ 1 ∷ 3 ∷ []) ∷
    -- `-1 0`
    line (2 ∷ []) (3 ∷ []) ∷
    -- `1 0 2 3 4 0`, budget 2
    line (2 ∷ 1 ∷ 1 ∷ 0 ∷ []) (3 ∷ 2 ∷ 2 ∷ 0 ∷ []) ∷
    []

pub recorded_cases : all_pass (cases ++ further) (lines ++ further_lines) ≡ true
unfolding state_of close_in closing go_on call_on chunk_call chunks_in chunks first_call run refusal_of calls_after ways_after
recorded_cases = refl
