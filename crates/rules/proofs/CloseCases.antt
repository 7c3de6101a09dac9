-- What follows at once, of small formulas (docs/RULES.md, "What follows at once"), computed: one table, one theorem. The buffer is lent one
-- byte longer than it must be and full of 7s.
--
--   close_cases_lem       the definitions give what each line says
--
-- Assumes nothing.
use mathlib.Core.Path.{◌≡◌, refl}
use mathlib.Core.Bool.{Bool, true, ◌&&◌}
use mathlib.Core.List.{List, [], ◌∷◌, ◌++◌}
use Prim.Native.Nat.{ℕ, ◌+◌}
use lib.IntN.{ℤ, pos}
use lib.ListN.{replicate}
use Rattle.rules.specs.Lists.{all, eqs}
use Rattle.rules.specs.Closing.{state_of, close_in, closing}
use Rattle.rules.specs.Rounds.{rounds_in, rounds}
use Rattle.rules.specs.Setup.{setup_refusal}
use Rattle.rules.specs.Close.{CloseGiven, close_given, close_number, close_place, close_refusal, closed_set, close_rounds, close_report_of, close_values_after}
use Rattle.rules.proofs.Starred.{neg, clause, unit}

-- V, entries, held literals; then answer, place, rounds and set, and the values with the byte behind them
pub record CloseCase : Type 0 where
  pub vars : ℕ
  pub entries : List ℤ
  pub held : List ℤ
  pub numbers : List ℕ
  pub values : List ℕ

abbrev line : ℕ → List ℤ → List ℤ → List ℕ → List ℕ → CloseCase
line v es held ns vs = record { vars = v; entries = es; held = held; numbers = ns; values = vs }

abbrev given_of : CloseCase → CloseGiven
given_of c = close_given c.entries c.vars c.held (replicate (c.vars + 1) 7)

abbrev numbers_of : CloseCase → List ℕ
numbers_of c =
    let r = close_report_of (given_of c) in
    close_number r.answer ∷ close_place r.answer ∷ r.rounds ∷ r.set ∷ []

abbrev pub passes : CloseCase → Bool
passes c = eqs (numbers_of c) c.numbers && eqs (close_values_after (given_of c)) c.values

-- `1 0 -1 2 0 -2 3 0`, and the same backwards
abbrev chain : List ℤ
chain = unit (pos 1) ++ clause (neg 1 ∷ pos 2 ∷ []) ++ clause (neg 2 ∷ pos 3 ∷ [])

abbrev backwards : List ℤ
backwards = clause (neg 2 ∷ pos 3 ∷ []) ++ clause (neg 1 ∷ pos 2 ∷ []) ++ unit (pos 1)

abbrev pub close_cases : List CloseCase
close_cases =
    -- one round sets all of a chain in file order, and one more sets nothing; backwards a round sets one
    line 3 chain [] (0 ∷ 0 ∷ 2 ∷ 3 ∷ []) (2 ∷ 2 ∷ 2 ∷ 7 ∷ []) ∷
    line 3 backwards [] (0 ∷ 0 ∷ 4 ∷ 3 ∷ []) (2 ∷ 2 ∷ 2 ∷ 7 ∷ []) ∷
    -- no clause; nothing to set; both signs in a clause; a literal twice
    line 2 [] [] (0 ∷ 0 ∷ 1 ∷ 0 ∷ []) (0 ∷ 0 ∷ 7 ∷ []) ∷
    line 2 (clause (pos 1 ∷ pos 2 ∷ [])) [] (0 ∷ 0 ∷ 1 ∷ 0 ∷ []) (0 ∷ 0 ∷ 7 ∷ []) ∷
    line 2 (clause (pos 1 ∷ neg 1 ∷ [])) [] (0 ∷ 0 ∷ 1 ∷ 0 ∷ []) (0 ∷ 0 ∷ 7 ∷ []) ∷
    line 2 (clause (neg 1 ∷ neg 1 ∷ [])) [] (0 ∷ 0 ∷ 2 ∷ 1 ∷ []) (1 ∷ 0 ∷ 7 ∷ []) ∷
    -- a held literal is set in a round, behind the clauses: `-1 2 0` follows in the next one
    line 2 (clause (neg 1 ∷ pos 2 ∷ [])) (pos 1 ∷ []) (0 ∷ 0 ∷ 3 ∷ 2 ∷ []) (2 ∷ 2 ∷ 7 ∷ []) ∷
    -- a clash: an empty clause; both signs held; one in the second round, with a clause behind it that is not looked at
    line 2 (clause []) [] (20 ∷ 0 ∷ 1 ∷ 0 ∷ []) (0 ∷ 0 ∷ 7 ∷ []) ∷
    line 2 [] (pos 2 ∷ neg 2 ∷ []) (20 ∷ 0 ∷ 1 ∷ 0 ∷ []) (0 ∷ 0 ∷ 7 ∷ []) ∷
    line 3 (clause (neg 1 ∷ pos 2 ∷ []) ++ clause (neg 1 ∷ neg 2 ∷ []) ++ unit (pos 3)) (pos 1 ∷ []) (20 ∷ 0 ∷ 2 ∷ 0 ∷ []) (0 ∷ 0 ∷ 0 ∷ 7 ∷ []) ∷
    -- closed, and yet there is no model
    line 2 (clause (pos 1 ∷ pos 2 ∷ []) ++ clause (pos 1 ∷ neg 2 ∷ []) ++ clause (neg 1 ∷ pos 2 ∷ []) ++ clause (neg 1 ∷ neg 2 ∷ [])) []
    (0 ∷ 0 ∷ 1 ∷ 0 ∷ []) (0 ∷ 0 ∷ 7 ∷ []) ∷
    -- no variable
    line 0 [] [] (0 ∷ 0 ∷ 1 ∷ 0 ∷ []) (7 ∷ []) ∷
    line 0 (clause []) [] (20 ∷ 0 ∷ 1 ∷ 0 ∷ []) (7 ∷ []) ∷
    -- refused, and nothing is written: 257 variables, a list that is not ended, a variable above V, a held literal above V
    line 257 [] [] (10 ∷ 0 ∷ 0 ∷ 0 ∷ []) (replicate 258 7) ∷
    line 1 (pos 1 ∷ []) [] (11 ∷ 1 ∷ 0 ∷ 0 ∷ []) (7 ∷ 7 ∷ []) ∷
    line 1 (unit (pos 2)) (pos 2 ∷ []) (12 ∷ 0 ∷ 0 ∷ 0 ∷ []) (7 ∷ 7 ∷ []) ∷
    line 1 (unit (pos 1)) (pos 1 ∷ neg 2 ∷ []) (13 ∷ 1 ∷ 0 ∷ 0 ∷ []) (7 ∷ 7 ∷ []) ∷
    []

pub close_cases_lem : all passes close_cases ≡ true
unfolding state_of close_in closing rounds_in rounds setup_refusal close_refusal closed_set close_rounds close_report_of close_values_after
close_cases_lem = refl
