-- docs/RULES.md, "The printed table": the bytes that are printed for a text. Assumes nothing.
use Rattle.std.specs.Prelude.{◌≡◌, Bool, true, false, List, [], ◌∷◌, ◌++◌, ℕ, zero, suc, pred, ◌-◌, ℤ, leb, length, get_or, drop, replicate}
use Rattle.rules.specs.declared.RunAnswer.{RunAnswer}
use Rattle.rules.specs.declared.Report.{Report}
use Rattle.rules.specs.Numbers.{max_entries, read_number, read_place, refusal_number, refusal_place, run_number}
use Rattle.texts.specs.Text.{Sizes}
use Rattle.texts.specs.Reading.{Judged, accepted, refused, judge}
use Rattle.texts.specs.Plain.{decimal}
use Rattle.rules.specs.Answer.{Given, log_length, report_of, status_after, hints_after}

-- ---- words, each with the blanks around it

-- "answer "
abbrev pub answer_word : List ℕ
answer_word = 97 ∷ 110 ∷ 115 ∷ 119 ∷ 101 ∷ 114 ∷ 32 ∷ []

-- " calls "
abbrev pub calls_word : List ℕ
calls_word = 32 ∷ 99 ∷ 97 ∷ 108 ∷ 108 ∷ 115 ∷ 32 ∷ []

-- " tries "
abbrev pub tries_word : List ℕ
tries_word = 32 ∷ 116 ∷ 114 ∷ 105 ∷ 101 ∷ 115 ∷ 32 ∷ []

-- " forced"
abbrev pub forced_word : List ℕ
forced_word = 32 ∷ 102 ∷ 111 ∷ 114 ∷ 99 ∷ 101 ∷ 100 ∷ []

-- " free"
abbrev pub free_word : List ℕ
free_word = 32 ∷ 102 ∷ 114 ∷ 101 ∷ 101 ∷ []

-- " open"
abbrev pub open_word : List ℕ
open_word = 32 ∷ 111 ∷ 112 ∷ 101 ∷ 110 ∷ []

-- " on"
abbrev pub on_word : List ℕ
on_word = 32 ∷ 111 ∷ 110 ∷ []

-- " off"
abbrev pub off_word : List ℕ
off_word = 32 ∷ 111 ∷ 102 ∷ 102 ∷ []

-- " held by clause "
abbrev pub held_word : List ℕ
held_word = 32 ∷ 104 ∷ 101 ∷ 108 ∷ 100 ∷ 32 ∷ 98 ∷ 121 ∷ 32 ∷ 99 ∷ 108 ∷ 97 ∷ 117 ∷ 115 ∷ 101 ∷ 32 ∷ []

-- "refused "
abbrev pub refused_word : List ℕ
refused_word = 114 ∷ 101 ∷ 102 ∷ 117 ∷ 115 ∷ 101 ∷ 100 ∷ 32 ∷ []

-- " place "
abbrev pub place_word : List ℕ
place_word = 32 ∷ 112 ∷ 108 ∷ 97 ∷ 99 ∷ 101 ∷ 32 ∷ []

-- ---- lines, each ended by LF

abbrev pub refused_line : ℕ → ℕ → List ℕ
refused_line number place = refused_word ++ decimal number ++ place_word ++ decimal place ++ 10 ∷ []

-- the returned numbers; open is V less both
abbrev pub answer_line : ℕ → Report → List ℕ
answer_line vars r =
    answer_word ++ decimal (run_number r.answer) ++
    calls_word ++ decimal r.calls ++
    tries_word ++ decimal r.tries ++
    forced_word ++ 32 ∷ decimal r.forced ++
    free_word ++ 32 ∷ decimal r.free ++
    open_word ++ 32 ∷ decimal (vars - r.forced - r.free) ++
    10 ∷ []

-- what is said of a variable by its status, and where it is forced by its hint too
abbrev pub status_words : ℕ → ℕ → List ℕ
status_words zero hint = open_word
status_words (suc zero) hint = free_word
status_words (suc (suc zero)) hint = forced_word ++ on_word ++ held_word ++ decimal hint
status_words (suc (suc (suc s))) hint = forced_word ++ off_word ++ held_word ++ decimal hint

-- a line a variable, the first one of variable v; the hint of a variable is looked up by its index
abbrev pub status_lines : ℕ → List ℕ → List ℕ → List ℕ
status_lines v [] hs = []
status_lines v (s ∷ ss) hs = decimal v ++ status_words s (get_or hs (pred v) 0) ++ 10 ∷ status_lines (suc v) ss hs

-- ---- the table: only the first line after 20, only the refusal if there is one

abbrev pub table_by : RunAnswer → ℕ → Report → List ℕ → List ℕ → List ℕ
table_by RunAnswer.Settled vars r ss hs = answer_line vars r ++ status_lines 1 ss hs
table_by RunAnswer.Stopped vars r ss hs = answer_line vars r ++ status_lines 1 ss hs
table_by RunAnswer.NoModel vars r ss hs = answer_line vars r
table_by (RunAnswer.Refused a) vars r ss hs = refused_line (refusal_number a) (refusal_place a)

abbrev pub table_of_run : ℕ → Report → List ℕ → List ℕ → List ℕ
table_of_run vars r ss hs = table_by r.answer vars r ss hs

abbrev pub table_budget : ℕ
table_budget = 1000000

abbrev pub table_chunk : ℕ
table_chunk = 16

-- that budget and that chunk limit, with buffers of just the size
abbrev pub table_given : Sizes → List ℤ → List ℤ → Given
table_given s es held =
    record {
      entries = es;
      vars = s.vars;
      held = held;
      budget = table_budget;
      limit = table_chunk;
      status = replicate s.vars 0;
      calls = replicate s.vars 0;
      ways = replicate s.vars 0;
      hints = replicate s.vars 0;
      log = replicate (log_length s.vars) 0;
    }

abbrev pub table_of_judged : Judged → List ℤ → List ℕ
table_of_judged (refused a) held = refused_line (read_number a) (read_place a)
table_of_judged (accepted s es) held =
    table_of_run s.vars (report_of (table_given s es held)) (status_after (table_given s es held)) (hints_after (table_given s es held))

-- the table of a text, with literals held
unfoldable pub table_of : List ℕ → List ℤ → List ℕ
table_of text held = table_of_judged (judge max_entries text) held

-- ---- what a printing promises of its result and of the buffer: the bytes of the table, and how many they are; nothing, and 0,
-- where the buffer is shorter than any table may be long

abbrev pub max_table : ℕ
max_table = 9216

abbrev pub count_if_room : Bool → List ℕ → ℕ
count_if_room true table = length table
count_if_room false table = 0

abbrev pub bytes_if_room : Bool → List ℕ → List ℕ → List ℕ
bytes_if_room true table before = table ++ drop (length table) before
bytes_if_room false table before = before

pub record Prints (text : List ℕ) (held : List ℤ) (before : List ℕ) (count : ℕ) (after : List ℕ) : Type 0 where
  pub count_is : count ≡ count_if_room (leb max_table (length before)) (table_of text held)
  pub after_is : after ≡ bytes_if_room (leb max_table (length before)) (table_of text held) before
