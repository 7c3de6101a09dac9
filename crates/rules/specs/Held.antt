-- docs/RULES.md, "Choices already made": literals that are held, as clauses behind the formula, and as entries behind its list. Assumes
-- nothing.
use Rattle.std.specs.Prelude.{◌≡◌, Bool, true, ◌||◌, List, [], ◌∷◌, ◌++◌, map, ℕ, ◌≤◌, eqb, ltb, ℤ, pos, length}
use Rattle.rules.specs.declared.Refusal.{Refusal}
use Rattle.rules.specs.Lists.{In, any, nth_index, Check, check}
use Rattle.rules.specs.Numbers.{max_held}
use Rattle.rules.specs.Meaning.{Clause, Values, var_of, LitUpTo, is_true, Model}
use Rattle.rules.specs.Run.{Task}

-- a clause of one literal
abbrev pub unit_clause : ℤ → Clause
unit_clause l = l ∷ []

-- the clauses F and behind them one for each held literal: held literal i, from 1, is clause C + i
abbrev pub with_held : List Clause → List ℤ → List Clause
with_held F held = F ++ map unit_clause held

-- the same as entries: each literal, and the 0 that closes its clause
abbrev pub held_entries : List ℤ → List ℤ
held_entries [] = []
held_entries (l ∷ ls) = l ∷ pos 0 ∷ held_entries ls

-- an entry list with the held literals behind it
abbrev pub list_with : List ℤ → List ℤ → List ℤ
list_with es held = es ++ held_entries held

-- a task with literals held
abbrev pub holding : Task → List ℤ → Task
holding k held = record { vars = k.vars; budget = k.budget; limit = k.limit; formula = with_held k.formula held }

-- ---- refusals, 15 and then 13

-- no literal of a variable from 1 to `vars`: it is 0, or its variable is above
abbrev pub is_no_literal : ℕ → ℤ → Bool
is_no_literal vars l = eqb (var_of l) 0 || ltb vars (var_of l)

abbrev pub held_rules : List ℤ → ℕ → List (Check Refusal)
held_rules held vars =
    check (ltb max_held (length held)) Refusal.ManyHeld ∷
    check (any (is_no_literal vars) held) (Refusal.BadLiteral (nth_index (is_no_literal vars) held 0)) ∷
    []

-- literals that may be held: neither 15 nor 13
pub record Holdable (vars : ℕ) (held : List ℤ) : Type 0 where
  pub few : length held ≤ max_held
  pub up_to : (l : ℤ) → In l held → LitUpTo vars l

-- ---- what the theorems say

-- a model of F in which every held literal is true
pub record HeldModel (n : ℕ) (F : List Clause) (held : List ℤ) (m : Values) : Type 0 where
  pub is-model : Model n F m
  pub all_held : (l : ℤ) → In l held → is_true m l ≡ true
