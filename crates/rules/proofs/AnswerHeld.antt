-- Small formulas with held literals (docs/RULES.md, "Choices already made"), computed: one table, one theorem. The buffers are lent just as
-- long as they must be and full of 7s.
--
--   held_cases_lem        the definitions give what each line says
--
-- Assumes nothing.
use mathlib.Core.Path.{◌≡◌, refl}
use mathlib.Core.Bool.{Bool, true, ◌&&◌}
use mathlib.Core.List.{List, [], ◌∷◌, ◌++◌}
use Prim.Native.Nat.{ℕ, ◌-◌}
use lib.IntN.{ℤ, pos}
use lib.ListN.{length, replicate}
use Rattle.rules.specs.Lists.{all, eqs, joined}
use Rattle.rules.specs.Numbers.{run_number, run_place}
use Rattle.rules.specs.Closing.{state_of, close_in, closing}
use Rattle.rules.specs.Search.{go_on, call_on}
use Rattle.rules.specs.Run.{chunk_call, chunks_in, chunks, first_call, run}
use Rattle.rules.specs.Hints.{hints_of}
use Rattle.rules.specs.Answer.{Given, log_length, refusal_of, report_of, status_after, hints_after, log_after}
use Rattle.rules.proofs.Starred.{neg, clause, unit, returns, row}

-- V, budget, entries, held literals; then the numbers returned, the statuses, the hints and the rows
pub record HeldCase : Type 0 where
  pub vars : ℕ
  pub budget : ℕ
  pub entries : List ℤ
  pub held : List ℤ
  pub numbers : List ℕ
  pub statuses : List ℕ
  pub hints : List ℕ
  pub rows : List (List ℕ)

abbrev line : ℕ → ℕ → List ℤ → List ℤ → List ℕ → List ℕ → List ℕ → List (List ℕ) → HeldCase
line v b es held ns ss hs rs =
    record { vars = v; budget = b; entries = es; held = held; numbers = ns; statuses = ss; hints = hs; rows = rs }

abbrev given_of : HeldCase → Given
given_of c =
    record {
      entries = c.entries;
      vars = c.vars;
      held = c.held;
      budget = c.budget;
      limit = 2;
      status = replicate c.vars 7;
      calls = replicate c.vars 7;
      ways = replicate c.vars 7;
      hints = replicate c.vars 7;
      log = replicate (log_length c.vars) 7;
    }

abbrev numbers_of : HeldCase → List ℕ
numbers_of c =
    let r = report_of (given_of c) in
    run_number r.answer ∷ run_place r.answer ∷ r.calls ∷ r.tries ∷ r.forced ∷ r.free ∷ []

abbrev log_of : HeldCase → List ℕ
log_of c = joined c.rows ++ replicate (log_length c.vars - length (joined c.rows)) 0

abbrev pub passes : HeldCase → Bool
passes c =
    eqs (numbers_of c) c.numbers &&
    (eqs (status_after (given_of c)) c.statuses && (eqs (hints_after (given_of c)) c.hints && eqs (log_after (given_of c)) (log_of c)))

abbrev pub held_cases : List HeldCase
held_cases =
    -- one variable, no clause, 1 held: flips are judged against it, and clause 1 holds it
    line 1 100 [] (pos 1 ∷ []) (returns 0 2 0 1 0) (2 ∷ []) (1 ∷ []) (row 1 1 0 0 0 0 ∷ row 2 2 1 0 0 0 ∷ []) ∷
    -- twice, with a budget of 0
    line 1 0 [] (neg 1 ∷ neg 1 ∷ []) (returns 0 2 0 1 0) (3 ∷ []) (1 ∷ []) (row 1 1 0 0 0 0 ∷ row 2 2 1 0 0 0 ∷ []) ∷
    -- both signs, with a budget of 0
    line 1 0 [] (pos 1 ∷ neg 1 ∷ []) (returns 20 1 0 0 0) (0 ∷ []) (0 ∷ []) (row 1 2 0 0 0 0 ∷ []) ∷
    -- `1 2 3 0` with -1 held, and with -2 too: clause C + i for held literal i
    line 3 100 (clause (pos 1 ∷ pos 2 ∷ pos 3 ∷ [])) (neg 1 ∷ []) (returns 0 3 1 1 2) (3 ∷ 1 ∷ 1 ∷ []) (2 ∷ 0 ∷ 1 ∷ [])
    (row 1 1 0 0 1 1 ∷ row 2 2 1 0 0 0 ∷ row 3 1 1 1 0 0 ∷ []) ∷
    line 3 100 (clause (pos 1 ∷ pos 2 ∷ pos 3 ∷ [])) (neg 1 ∷ neg 2 ∷ []) (returns 0 3 0 3 0) (3 ∷ 3 ∷ 2 ∷ []) (2 ∷ 3 ∷ 1 ∷ [])
    (row 1 1 0 0 0 0 ∷ row 2 2 1 0 0 0 ∷ row 3 2 2 0 0 0 ∷ []) ∷
    -- a held literal that the formula excludes
    line 2 100 (clause (pos 1 ∷ pos 2 ∷ []) ++ clause (pos 1 ∷ neg 2 ∷ [])) (neg 1 ∷ []) (returns 20 1 0 0 0) (0 ∷ 0 ∷ []) (0 ∷ 0 ∷ [])
    (row 1 2 0 0 0 0 ∷ []) ∷
    -- refused: nothing is written
    line 1 100 (unit (pos 1)) (pos 1 ∷ pos 2 ∷ []) (13 ∷ 1 ∷ 0 ∷ 0 ∷ 0 ∷ 0 ∷ []) (7 ∷ []) (7 ∷ []) (replicate 12 7 ∷ []) ∷
    []

pub held_cases_lem : all passes held_cases ≡ true
unfolding state_of close_in closing go_on call_on chunk_call chunks_in chunks first_call run refusal_of report_of status_after hints_of hints_after log_after
held_cases_lem = refl
