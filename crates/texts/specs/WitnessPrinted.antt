-- docs/RULES.md, "The printed witness": the bytes that are printed for a text and a variable. Assumes nothing.
use Rattle.std.specs.Prelude.{◌≡◌, List, [], ◌++◌, map, ℕ, zero, suc, pred, leb, ℤ, pos, negsuc, length, replicate}
use Rattle.std.proofs.Math.Option.{Option, none, some}
use Rattle.rules.specs.declared.Refusal.{Refusal}
use Rattle.rules.specs.Numbers.{max_entries, read_number, read_place, refusal_number, refusal_place}
use Rattle.rules.specs.Meaning.{Values}
use Rattle.texts.specs.Reading.{Judged, accepted, refused, judge}
use Rattle.rules.specs.Run.{Progress, run}
use Rattle.texts.specs.Printed.{refused_line, table_budget, table_chunk, count_if_room, bytes_if_room}
use Rattle.texts.specs.ModelLine.{model_line}
use Rattle.rules.specs.Witness.{witness_at, Asked, asked, asked_task, asked_refusal}

-- a value as a bit: 1 true, 0 false
abbrev pub value_bit : ℕ → ℕ
value_bit zero = 0
value_bit (suc zero) = 0
value_bit (suc (suc b)) = 1

-- the bit of a literal: 0 behind a minus
abbrev pub literal_bit : ℤ → ℕ
literal_bit (pos n) = 1
literal_bit (negsuc n) = 0

abbrev pub bits_of : Values → List ℕ
bits_of m = map value_bit m

-- the first model and the witness of the variable at an index, a line each
abbrev pub witness_lines : Progress → ℕ → List ℕ
witness_lines p i = model_line (bits_of p.first) ++ model_line (bits_of (witness_at p i))

-- the budget and the chunk limit of the table, with buffers of just the size
abbrev pub witness_asked : ℕ → List ℤ → ℕ → Asked
witness_asked vars es v = asked es vars [] table_budget table_chunk v (replicate vars (pos 0)) (replicate vars (pos 0))

-- only the refusal if there is one
abbrev pub witness_text_if : Option Refusal → Progress → ℕ → List ℕ
witness_text_if none p v = witness_lines p (pred v)
witness_text_if (some r) p v = refused_line (refusal_number r) (refusal_place r)

abbrev pub witness_text_of_asked : Asked → List ℕ
witness_text_of_asked a = witness_text_if (asked_refusal a) (run (asked_task a)).progress a.variable

abbrev pub witness_text_of_judged : Judged → ℕ → List ℕ
witness_text_of_judged (refused a) v = refused_line (read_number a) (read_place a)
witness_text_of_judged (accepted s es) v = witness_text_of_asked (witness_asked s.vars es v)

unfoldable pub witness_text_of : List ℕ → ℕ → List ℕ
witness_text_of text v = witness_text_of_judged (judge max_entries text) v

-- ---- what a printing promises of its result and of the buffer: the bytes, and how many they are; nothing, and 0, where the buffer is
-- shorter than they may be

abbrev pub max_witness : ℕ
max_witness = 4096

pub record PrintsWitness (text : List ℕ) (v : ℕ) (before : List ℕ) (count : ℕ) (after : List ℕ) : Type 0 where
  pub count_is : count ≡ count_if_room (leb max_witness (length before)) (witness_text_of text v)
  pub after_is : after ≡ bytes_if_room (leb max_witness (length before)) (witness_text_of text v) before
