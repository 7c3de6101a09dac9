-- A formula as code has it: an entry list, where its clauses start, and the number of its variables. Whoever runs, closes, flips or
-- looks up asks for this one record. Assumes nothing.
use Rattle.std.specs.Prelude.{◌≡◌, List, ℕ, ◌+◌, ◌≤◌, ℤ, length, Option, None, Some}
use Rattle.std.proofs.Math.Option as math
use Rattle.rules.specs.Lists.{In}
use Rattle.rules.specs.Numbers.{max_vars, max_clauses, max_entries, max_held}
use Rattle.rules.specs.Meaning.{var_of, clauses}
use Rattle.rules.specs.declared.ClauseNo.{ClauseNo}
use Rattle.formula.specs.Starts.{starts_of}

-- the bounds are those of a list with held literals behind it: code has room for so many
pub record Formula (vars : ℕ) (es : List ℤ) (starts : List ℕ) : Type 0 where
  pub vars_fit : vars ≤ max_vars
  pub entries_most : length es ≤ max_entries + (max_held + max_held)
  pub clauses_most : length (clauses es) ≤ max_clauses + max_held
  pub starts_are : starts ≡ starts_of es
  pub up_to : (l : ℤ) → In l es → var_of l ≤ vars

-- the first false clause by its number, or nothing
abbrev pub first_false_of : math.Option ℕ → Option ClauseNo
first_false_of math.none = None
first_false_of (math.some n) = Some (record { 0 = n })
