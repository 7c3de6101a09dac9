-- docs/RULES.md, "The shorter file": the bytes that are printed for a text. Assumes nothing.
use Rattle.std.specs.Prelude.{◌≡◌, List, ℕ, leb, ℤ, length}
use Rattle.rules.specs.Numbers.{max_text, max_entries, read_number, read_place}
use Rattle.rules.specs.Meaning.{clauses}
use Rattle.texts.specs.Reading.{Judged, accepted, refused, judge}
use Rattle.rules.specs.Run.{Task}
use Rattle.texts.specs.Printed.{refused_line, table_budget, table_chunk, count_if_room, bytes_if_room}
use Rattle.texts.specs.Shorter.{shorter_text}

-- the budget and the chunk limit of the table
abbrev pub printed_task : ℕ → List ℤ → Task
printed_task vars es = record { vars = vars; budget = table_budget; limit = table_chunk; formula = clauses es }

-- only the refusal if there is one: a list that is read from a text is never refused
abbrev pub shorter_of_judged : Judged → List ℕ
shorter_of_judged (refused a) = refused_line (read_number a) (read_place a)
shorter_of_judged (accepted s es) = shorter_text (printed_task s.vars es)

unfoldable pub shorter_text_of : List ℕ → List ℕ
shorter_text_of text = shorter_of_judged (judge max_entries text)

-- ---- what a printing promises of its result and of the buffer: the bytes, and how many they are; nothing, and 0, where the buffer is
-- shorter than they may be

pub record PrintsShorter (text before : List ℕ) (count : ℕ) (after : List ℕ) : Type 0 where
  pub count_is : count ≡ count_if_room (leb max_text (length before)) (shorter_text_of text)
  pub after_is : after ≡ bytes_if_room (leb max_text (length before)) (shorter_text_of text) before
