-- One valid setup of small formulas (docs/RULES.md, "One valid setup"), computed: one table, one theorem. The buffer is lent one byte longer
-- than it must be and full of 7s.
--
--   setup_cases_lem       the definitions give what each line says
--
-- Assumes nothing.
use mathlib.Core.Path.{◌≡◌, refl}
use mathlib.Core.Bool.{Bool, true, ◌&&◌}
use mathlib.Core.List.{List, [], ◌∷◌, ◌++◌}
use Prim.Native.Nat.{ℕ, ◌+◌}
use lib.IntN.{ℤ, pos}
use lib.ListN.{replicate}
use Rattle.rules.specs.Lists.{all, eqs}
use Rattle.rules.specs.Numbers.{run_number, run_place}
use Rattle.rules.specs.Closing.{state_of, close_in, closing}
use Rattle.rules.specs.Search.{go_on, call_on}
use Rattle.rules.specs.Setup.{SetupGiven, setup_given, setup_refusal, setup_call, setup_report_of, setup_values_after}
use Rattle.rules.proofs.Starred.{neg, clause, unit}

-- V, budget, entries, held literals; then the numbers returned, and the values with the byte behind them
pub record SetupCase : Type 0 where
  pub vars : ℕ
  pub budget : ℕ
  pub entries : List ℤ
  pub held : List ℤ
  pub numbers : List ℕ
  pub values : List ℕ

abbrev line : ℕ → ℕ → List ℤ → List ℤ → List ℕ → List ℕ → SetupCase
line v b es held ns vs = record { vars = v; budget = b; entries = es; held = held; numbers = ns; values = vs }

abbrev given_of : SetupCase → SetupGiven
given_of c = setup_given c.entries c.vars c.held c.budget (replicate (c.vars + 1) 7)

abbrev numbers_of : SetupCase → List ℕ
numbers_of c =
    let r = setup_report_of (given_of c) in
    run_number r.answer ∷ run_place r.answer ∷ r.calls ∷ r.tries ∷ r.forced ∷ r.free ∷ []

abbrev pub passes : SetupCase → Bool
passes c = eqs (numbers_of c) c.numbers && eqs (setup_values_after (given_of c)) c.values

-- answer, calls and tries; the other numbers are 0
abbrev ended : ℕ → ℕ → ℕ → List ℕ
ended answer calls tries = answer ∷ 0 ∷ calls ∷ tries ∷ 0 ∷ 0 ∷ []

abbrev pub setup_cases : List SetupCase
setup_cases =
    -- `1 2 0 1 -2 0`: the first model; and with 2 held, which needs no try
    line 2 100 (clause (pos 1 ∷ pos 2 ∷ []) ++ clause (pos 1 ∷ neg 2 ∷ [])) [] (ended 0 1 3) (1 ∷ 0 ∷ 7 ∷ []) ∷
    line 2 100 (clause (pos 1 ∷ pos 2 ∷ []) ++ clause (pos 1 ∷ neg 2 ∷ [])) (pos 2 ∷ []) (ended 0 1 0) (1 ∷ 1 ∷ 7 ∷ []) ∷
    -- none with -1 held; and with both signs of 3
    line 2 100 (clause (pos 1 ∷ pos 2 ∷ []) ++ clause (pos 1 ∷ neg 2 ∷ [])) (neg 1 ∷ []) (ended 20 1 0) (0 ∷ 0 ∷ 7 ∷ []) ∷
    line 3 0 [] (pos 3 ∷ neg 3 ∷ []) (ended 20 1 0) (0 ∷ 0 ∷ 0 ∷ 7 ∷ []) ∷
    -- stopped
    line 3 2 [] (pos 1 ∷ []) (ended 0 1 2) (1 ∷ 0 ∷ 0 ∷ 7 ∷ []) ∷
    line 3 1 [] (pos 1 ∷ []) (ended 21 1 1) (0 ∷ 0 ∷ 0 ∷ 7 ∷ []) ∷
    -- no variable
    line 0 0 [] [] (ended 0 1 0) (7 ∷ []) ∷
    line 0 0 (clause []) [] (ended 20 1 0) (7 ∷ []) ∷
    -- refused, and nothing is written: 257 variables, a variable above V, a held literal above V
    line 257 100 [] [] (ended 10 0 0) (replicate 258 7) ∷
    line 1 100 (unit (pos 2)) (pos 2 ∷ []) (ended 12 0 0) (7 ∷ 7 ∷ []) ∷
    line 1 100 (unit (pos 1)) (pos 1 ∷ neg 2 ∷ []) (13 ∷ 1 ∷ 0 ∷ 0 ∷ 0 ∷ 0 ∷ []) (7 ∷ 7 ∷ []) ∷
    []

pub setup_cases_lem : all passes setup_cases ≡ true
unfolding state_of close_in closing go_on call_on setup_refusal setup_call setup_report_of setup_values_after
setup_cases_lem = refl
