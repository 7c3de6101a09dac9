-- The lines of docs/RULES.md, "The printed table", as they are put: field behind field. Assumes nothing.
use Rattle.std.specs.Prelude.{List, [], ◌∷◌, ◌++◌, ℕ, ◌≤◌, length}
use Rattle.rules.specs.Numbers.{max_vars}
use Rattle.texts.specs.Plain.{decimal}
use Rattle.texts.specs.Printed.{answer_word, calls_word, tries_word, forced_word, free_word, open_word, refused_word, place_word, status_words}
use Rattle.texts.specs.Printed.{status_lines}
use Rattle.buffers.specs.Put.{Room}

-- the first three numbers of the answer line
abbrev pub count_fields : ℕ → ℕ → ℕ → List ℕ
count_fields number calls tries =
    (answer_word ++ decimal number) ++ ((calls_word ++ decimal calls) ++ (tries_word ++ decimal tries))

-- the last three, and LF
abbrev pub end_fields : ℕ → ℕ → ℕ → List ℕ
end_fields forced free opens =
    (forced_word ++ 32 ∷ decimal forced) ++ ((free_word ++ 32 ∷ decimal free) ++ ((open_word ++ 32 ∷ decimal opens) ++ 10 ∷ []))

-- the line of a refusal
abbrev pub refused_fields : ℕ → ℕ → List ℕ
refused_fields number place = (refused_word ++ decimal number) ++ ((place_word ++ decimal place) ++ 10 ∷ [])

-- the line of one variable
abbrev pub status_line : ℕ → ℕ → ℕ → List ℕ
status_line v s hint = decimal v ++ (status_words s hint ++ 10 ∷ [])

-- what a line for each variable requires: room, and a hint for each status
pub record LinesOver (at : ℕ) (status hints out : List ℕ) : Type 0 where
  pub room : Room at (status_lines 1 status hints) out
  pub vars_fit : length status ≤ max_vars
  pub hints_fit : length status ≤ length hints
