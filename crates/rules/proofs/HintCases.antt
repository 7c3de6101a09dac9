-- The hints of the small formulas (docs/RULES.md, "Small formulas"), computed: one table, one theorem.
--
--   hint_cases_lem        the definitions give what each line says
--
-- Assumes nothing.
use mathlib.Core.Path.{◌≡◌, refl}
use mathlib.Core.Bool.{Bool, true}
use mathlib.Core.List.{List, [], ◌∷◌, ◌++◌}
use Prim.Native.Nat.{ℕ}
use lib.IntN.{ℤ, pos}
use Rattle.rules.specs.Lists.{all, eqs}
use Rattle.rules.specs.Closing.{state_of, close_in, closing}
use Rattle.rules.specs.Search.{go_on, call_on}
use Rattle.rules.specs.Run.{first_call}
use Rattle.rules.specs.Hints.{hints_of}
use Rattle.rules.specs.Answer.{refusal_of, hints_after}
use Rattle.rules.proofs.Starred.{line, neg, clause, unit, given}

-- V, budget, entries; then the hints
pub record HintCase : Type 0 where
  pub vars : ℕ
  pub budget : ℕ
  pub entries : List ℤ
  pub hints : List ℕ

abbrev hint : ℕ → ℕ → List ℤ → List ℕ → HintCase
hint v b es hs = record { vars = v; budget = b; entries = es; hints = hs }

abbrev pub passes : HintCase → Bool
passes c = eqs (hints_after (given (line c.vars c.budget 2 c.entries [] [] []))) c.hints

abbrev pub hint_cases : List HintCase
hint_cases =
    -- the starred ones, in their order
    hint 0 100 [] [] ∷
    hint 0 100 (clause []) [] ∷
    hint 1 100 [] (0 ∷ []) ∷
    -- stopped in call 1: no first model
    hint 1 0 [] (0 ∷ []) ∷
    hint 1 100 (unit (pos 1)) (1 ∷ []) ∷
    -- a literal written twice is one
    hint 1 100 (clause (pos 1 ∷ pos 1 ∷ [])) (1 ∷ []) ∷
    hint 1 100 (clause (pos 1 ∷ neg 1 ∷ [])) (0 ∷ []) ∷
    -- no model
    hint 1 100 (unit (pos 1) ++ unit (neg 1)) (0 ∷ []) ∷
    -- a free variable may have a hint too: the first model is the one that is asked
    hint 2 100 (clause (pos 1 ∷ pos 2 ∷ []) ++ clause (neg 1 ∷ neg 2 ∷ [])) (2 ∷ 1 ∷ []) ∷
    hint 2 100 (clause (pos 1 ∷ pos 2 ∷ []) ++ clause (pos 1 ∷ neg 2 ∷ [])) (1 ∷ 0 ∷ []) ∷
    hint 3 100 (unit (pos 1) ++ unit (pos 2) ++ unit (pos 3)) (1 ∷ 2 ∷ 3 ∷ []) ∷
    hint 3 100 (clause (pos 1 ∷ pos 2 ∷ pos 3 ∷ [])) (0 ∷ 0 ∷ 1 ∷ []) ∷
    -- stopped behind the first model
    hint 3 2 (clause (pos 1 ∷ pos 2 ∷ pos 3 ∷ [])) (0 ∷ 0 ∷ 1 ∷ []) ∷
    -- in the first model 2 is false, so that the second clause holds 1; in a later one, with 2 true, it would be the first
    hint 2 100 (clause (pos 1 ∷ neg 2 ∷ []) ++ clause (pos 1 ∷ pos 2 ∷ [])) (2 ∷ 0 ∷ []) ∷
    -- the first of two that the flip makes false
    hint 1 100 (clause (pos 1 ∷ neg 1 ∷ []) ++ unit (neg 1) ++ unit (neg 1)) (2 ∷ []) ∷
    []

pub hint_cases_lem : all passes hint_cases ≡ true
unfolding state_of close_in closing go_on call_on first_call refusal_of hints_of hints_after
hint_cases_lem = refl
