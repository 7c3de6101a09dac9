-- docs/RULES.md, "A witness to see", computed: one table, one theorem. The buffers are lent two literals longer than they must be, full of 7s.
--
--   witness_cases     the definitions give what each line says
--
-- Assumes nothing.
use mathlib.Core.Path.{◌≡◌, refl}
use mathlib.Core.Bool.{Bool, true, false, ◌&&◌}
use mathlib.Core.List.{List, [], ◌∷◌, ◌++◌}
use Prim.Native.Nat.{ℕ, ◌+◌}
use lib.Dec.{eqb}
use lib.IntN.{ℤ, pos}
use lib.ListN.{replicate}
use Rattle.rules.specs.Lists.{all, eqz}
use Rattle.rules.specs.Numbers.{run_number, run_place}
use Rattle.rules.specs.Closing.{state_of, close_in, closing}
use Rattle.rules.specs.Search.{go_on, call_on}
use Rattle.rules.specs.Run.{chunk_call, chunks_in, chunks, first_call, run}
use Rattle.rules.specs.Witness.{Asked, asked_refusal, asked_report, first_after, witness_after}
use Rattle.rules.proofs.Starred.{neg, clause, unit}

-- V, budget, variable, entries; then the answer, and the V literals of the first model and of the witness
pub record Case : Type 0 where
  pub vars : ℕ
  pub budget : ℕ
  pub variable : ℕ
  pub entries : List ℤ
  pub answer : ℕ
  pub first : List ℤ
  pub witness : List ℤ

abbrev shows : ℕ → ℕ → ℕ → List ℤ → ℕ → List ℤ → List ℤ → Case
shows v b x es n f w = record { vars = v; budget = b; variable = x; entries = es; answer = n; first = f; witness = w }

-- refused with 14: both buffers stay
abbrev refuses : ℕ → ℕ → ℕ → List ℤ → Case
refuses v b x es = shows v b x es 14 (replicate v (pos 7)) (replicate v (pos 7))

abbrev ask : Case → Asked
ask c =
    record {
      entries = c.entries;
      vars = c.vars;
      held = [];
      budget = c.budget;
      limit = 2;
      variable = c.variable;
      first = replicate (c.vars + 2) (pos 7);
      witness = replicate (c.vars + 2) (pos 7);
    }

abbrev same_literals : List ℤ → List ℤ → Bool
same_literals [] [] = true
same_literals [] (l ∷ ls) = false
same_literals (k ∷ ks) [] = false
same_literals (k ∷ ks) (l ∷ ls) = eqz k l && same_literals ks ls

abbrev pub passes : Case → Bool
passes c =
    let r = asked_report (ask c) in
    eqb (run_number r.answer) c.answer &&
    (eqb (run_place r.answer) 0 &&
    (same_literals (first_after (ask c)) (c.first ++ pos 7 ∷ pos 7 ∷ []) &&
    same_literals (witness_after (ask c)) (c.witness ++ pos 7 ∷ pos 7 ∷ [])))

-- `1 2 3 0`: 1 and 2 by flip in call 1, 3 by compare in call 2
abbrev three : List ℤ
three = clause (pos 1 ∷ pos 2 ∷ pos 3 ∷ [])

abbrev pub witnesses : List Case
witnesses =
    -- the model of call 2
    shows 2 100 1 (clause (pos 1 ∷ pos 2 ∷ []) ++ clause (neg 1 ∷ neg 2 ∷ [])) 0 (neg 1 ∷ pos 2 ∷ []) (pos 1 ∷ neg 2 ∷ []) ∷
    shows 3 100 3 three 0 (neg 1 ∷ neg 2 ∷ pos 3 ∷ []) (neg 1 ∷ pos 2 ∷ neg 3 ∷ []) ∷
    -- the model of call 1 with the variable flipped
    shows 1 100 1 [] 0 (neg 1 ∷ []) (pos 1 ∷ []) ∷
    shows 2 100 2 (clause (pos 1 ∷ pos 2 ∷ []) ++ clause (pos 1 ∷ neg 2 ∷ [])) 0 (pos 1 ∷ neg 2 ∷ []) (pos 1 ∷ pos 2 ∷ []) ∷
    shows 3 100 1 three 0 (neg 1 ∷ neg 2 ∷ pos 3 ∷ []) (pos 1 ∷ neg 2 ∷ pos 3 ∷ []) ∷
    -- with a budget of 2 the run is stopped in call 2: 2 is free, and 3 open
    shows 3 2 2 three 21 (neg 1 ∷ neg 2 ∷ pos 3 ∷ []) (neg 1 ∷ pos 2 ∷ pos 3 ∷ []) ∷
    refuses 3 2 3 three ∷
    -- 14: 0, above V, forced, after 20
    refuses 3 100 0 three ∷
    refuses 3 100 4 three ∷
    refuses 2 100 1 (clause (pos 1 ∷ pos 2 ∷ []) ++ clause (pos 1 ∷ neg 2 ∷ [])) ∷
    refuses 1 100 1 (unit (pos 1) ++ unit (neg 1)) ∷
    []

pub witness_cases : all passes witnesses ≡ true
unfolding state_of close_in closing go_on call_on chunk_call chunks_in chunks first_call run asked_refusal asked_report first_after witness_after
witness_cases = refl
