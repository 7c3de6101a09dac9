-- Computed cases of the form of proofs/Starred, one table and one theorem: each shows a sentence of docs/RULES.md, "Run" or "What comes
-- back", that no starred case shows. The check takes files by their names, so a definition that gives a case another answer is refused
-- here or in Starred before any law.
--
--   further_cases     the definitions give what each line says
--
-- Assumes nothing.
use mathlib.Core.Path.{◌≡◌, refl}
use mathlib.Core.Bool.{true}
use mathlib.Core.List.{List, [], ◌∷◌, ◌++◌}
use lib.IntN.{pos}
use Rattle.rules.specs.Lists.{all}
use Rattle.rules.specs.Closing.{state_of, close_in, closing}
use Rattle.rules.specs.Search.{go_on, call_on}
use Rattle.rules.specs.Run.{chunk_call, chunks_in, chunks, first_call, run}
use Rattle.rules.specs.Answer.{refusal_of, report_of, status_after, log_after}
use Rattle.rules.proofs.Starred.{Case, line, neg, clause, unit, returns, row, passes}

abbrev pub further : List Case
further =
    -- a model shows free what it gives another value, and not the chunk: 3 and not 2 of the chunk 2 and -3, and 4 outside it;
    -- `1 0 2 0 3 4 0 -3 -4 0`
    line 4 100 2
    (unit (pos 1) ++ unit (pos 2) ++ clause (pos 3 ∷ pos 4 ∷ []) ++ clause (neg 3 ∷ neg 4 ∷ []))
    (returns 0 4 1 2 2) (2 ∷ 2 ∷ 1 ∷ 1 ∷ [])
    (row 1 1 0 0 0 1 ∷ row 2 2 1 0 0 0 ∷ row 3 1 2 2 0 0 ∷ row 4 2 1 0 0 0 ∷ []) ∷
    -- "With chunk limit 1 the formula `1 0 2 0 3 0` takes four calls, variables plus one"
    line 3 100 1
    (unit (pos 1) ++ unit (pos 2) ++ unit (pos 3))
    (returns 0 4 0 3 0) (2 ∷ 2 ∷ 2 ∷ [])
    (row 1 1 0 0 0 0 ∷ row 2 2 1 0 0 0 ∷ row 3 2 1 0 0 0 ∷ row 4 2 1 0 0 0 ∷ []) ∷
    -- "chunk size doubles": 1, 2 and 4; `1 0 2 0 3 0 4 0 5 0 6 0 7 0`
    line 7 100 4
    (unit (pos 1) ++ unit (pos 2) ++ unit (pos 3) ++ unit (pos 4) ++ unit (pos 5) ++ unit (pos 6) ++ unit (pos 7))
    (returns 0 4 0 7 0) (2 ∷ 2 ∷ 2 ∷ 2 ∷ 2 ∷ 2 ∷ 2 ∷ [])
    (row 1 1 0 0 0 0 ∷ row 2 2 1 0 0 0 ∷ row 3 2 2 0 0 0 ∷ row 4 2 4 0 0 0 ∷ []) ∷
    -- "up to the chunk limit", "or all, if fewer": 1, 2, 2 and the last one; `1 0 2 0 3 0 4 0 5 0 6 0`
    line 6 100 2
    (unit (pos 1) ++ unit (pos 2) ++ unit (pos 3) ++ unit (pos 4) ++ unit (pos 5) ++ unit (pos 6))
    (returns 0 5 0 6 0) (2 ∷ 2 ∷ 2 ∷ 2 ∷ 2 ∷ 2 ∷ [])
    (row 1 1 0 0 0 0 ∷ row 2 2 1 0 0 0 ∷ row 3 2 2 0 0 0 ∷ row 4 2 2 0 0 0 ∷ row 5 2 1 0 0 0 ∷ []) ∷
    -- "A model: .. chunk size back to 1": 1, 2, 4 with a model, 1 and 1; `1 0 2 0 3 0 4 5 0 -4 -5 0 6 0 7 0`
    line 7 100 4
    (unit (pos 1) ++ unit (pos 2) ++ unit (pos 3) ++ clause (pos 4 ∷ pos 5 ∷ []) ++ clause (neg 4 ∷ neg 5 ∷ []) ++ unit (pos 6) ++ unit (pos 7))
    (returns 0 6 3 5 2) (2 ∷ 2 ∷ 2 ∷ 1 ∷ 1 ∷ 2 ∷ 2 ∷ [])
    (row 1 1 0 0 0 1 ∷ row 2 2 1 0 0 0 ∷ row 3 2 2 0 0 0 ∷ row 4 1 4 2 0 2 ∷ row 5 2 1 0 0 0 ∷ row 6 2 1 0 0 0 ∷ []) ∷
    -- "Call on the formula, the literals forced so far": with 1 forced, call 3 needs no try; `1 2 0 1 -2 0 -1 3 4 0 -1 3 -4 0`
    line 4 100 2
    (clause (pos 1 ∷ pos 2 ∷ []) ++ clause (pos 1 ∷ neg 2 ∷ []) ++ clause (neg 1 ∷ pos 3 ∷ pos 4 ∷ []) ++ clause (neg 1 ∷ pos 3 ∷ neg 4 ∷ []))
    (returns 0 3 6 2 2) (2 ∷ 1 ∷ 2 ∷ 1 ∷ [])
    (row 1 1 0 0 2 6 ∷ row 2 2 1 0 0 0 ∷ row 3 2 1 0 0 0 ∷ []) ∷
    -- "the lowest-numbered": 1 is taken before 3; `1 2 0 -1 -2 0 3 0`
    line 3 100 2
    (clause (pos 1 ∷ pos 2 ∷ []) ++ clause (neg 1 ∷ neg 2 ∷ []) ++ unit (pos 3))
    (returns 0 3 1 1 2) (1 ∷ 1 ∷ 2 ∷ [])
    (row 1 1 0 0 0 1 ∷ row 2 1 1 2 0 0 ∷ row 3 2 1 0 0 0 ∷ []) ∷
    -- "3 forced false"; `-1 0`
    line 1 100 2
    (unit (neg 1))
    (returns 0 2 0 1 0) (3 ∷ [])
    (row 1 1 0 0 0 0 ∷ row 2 2 1 0 0 0 ∷ []) ∷
    -- "after 21 they hold what was proved before the stop": forced, free and open; `1 0 2 3 4 0`, budget 2
    line 4 2 2
    (unit (pos 1) ++ clause (pos 2 ∷ pos 3 ∷ pos 4 ∷ []))
    (returns 21 3 2 1 2) (2 ∷ 1 ∷ 1 ∷ 0 ∷ [])
    (row 1 1 0 0 2 2 ∷ row 2 2 1 0 0 0 ∷ row 3 3 1 0 0 0 ∷ []) ∷
    []

pub further_cases : all passes further ≡ true
unfolding state_of close_in closing go_on call_on chunk_call chunks_in chunks first_call run refusal_of report_of status_after log_after
further_cases = refl
