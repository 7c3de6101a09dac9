-- The rows of the log (docs/RULES.md, "What comes back"). Assumes nothing.
use Rattle.std.specs.Prelude.{List, [], ◌∷◌, ℕ, ◌+◌, ◌-◌, ◌*◌, ◌≤◌, length}
use Rattle.std.proofs.lemmas.List.Edits.{sets}
use Rattle.rules.specs.Numbers.{max_vars, outcome_number}
use Rattle.steps.specs.declared.row.Row.{Row}

-- the six numbers of a row, behind so many calls that have spent so many tries
abbrev pub row_of : ℕ → ℕ → Row → List ℕ
row_of calls tries row =
    (calls + 1) ∷ outcome_number row.outcome ∷ row.chunk ∷ row.by_compare ∷ row.by_flip ∷ (row.spent - tries) ∷ []

-- the log with this row behind those of the calls before it
abbrev pub with_row : List ℕ → ℕ → ℕ → Row → List ℕ
with_row log calls tries row = sets log (6 * calls) (row_of calls tries row)

-- what is required: room for one row more, and that the tries have not become fewer
pub record RowOver (log : List ℕ) (calls tries : ℕ) (row : Row) : Type 0 where
  pub log_room_lem : 6 * (calls + 1) ≤ length log
  pub tries_up : tries ≤ row.spent
  pub calls_fit : calls ≤ max_vars
