-- What a user reads off a printed table (docs/RULES.md, "The printed table"): its lines, and the answer that the first one says.
-- That they say what models say is a theorem. Assumes nothing.
use Rattle.std.specs.Prelude.{◌≡◌, List, [], ◌∷◌, ◌++◌, ℕ, ℤ, get_or}
use Rattle.rules.specs.Lists.{cut}
use Rattle.texts.specs.Text.{is_lf}
use Rattle.rules.specs.Meaning.{clauses}
use Rattle.texts.specs.Plain.{decimal}
use Rattle.rules.specs.Run.{Task}
use Rattle.rules.specs.Held.{with_held}
use Rattle.texts.specs.Printed.{answer_word, table_budget, table_chunk}

-- the line with this number, from 0: so the line of variable v has the number v
abbrev pub line_at : List ℕ → ℕ → List ℕ
line_at table n = get_or (cut is_lf table) n []

-- the table begins with `answer `, the number n, and a space
pub record SaysAnswer (n : ℕ) (table : List ℕ) : Type 0 where
  pub rest : List ℕ
  pub begins : table ≡ answer_word ++ decimal n ++ 32 ∷ rest

-- the run of the table program: budget 1,000,000 and chunk limit 16
abbrev pub table_task : ℕ → List ℤ → List ℤ → Task
table_task vars es held = record { vars = vars; budget = table_budget; limit = table_chunk; formula = with_held (clauses es) held }
