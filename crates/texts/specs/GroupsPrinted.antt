-- docs/RULES.md, "The printed groups": the bytes that are printed for a file of groups. Assumes nothing.
use Rattle.std.specs.Prelude.{◌≡◌, List, [], ◌∷◌, ◌++◌, ℕ, zero, suc, leb, ℤ, length, take, drop}
use Rattle.rules.specs.declared.RunAnswer.{RunAnswer}
use Rattle.rules.specs.declared.Report.{Report}
use Rattle.rules.specs.Lists.{pieces}
use Rattle.rules.specs.Numbers.{max_entries, refusal_number, refusal_place, groups_number, groups_place}
use Rattle.texts.specs.Plain.{decimal}
use Rattle.rules.specs.Answer.{Given, report_of, status_after}
use Rattle.texts.specs.Printed.{free_word, open_word, refused_line, answer_line, table_given, count_if_room, bytes_if_room}
use Rattle.texts.specs.Groups.{max_groups, vars_in, expanded_entries}
use Rattle.texts.specs.GroupsReading.{GroupsJudged, accepted, refused, judge_groups}

-- ---- words, each with the blank before it

-- " settled"
abbrev pub settled_word : List ℕ
settled_word = 32 ∷ 115 ∷ 101 ∷ 116 ∷ 116 ∷ 108 ∷ 101 ∷ 100 ∷ []

-- " dead"
abbrev pub dead_word : List ℕ
dead_word = 32 ∷ 100 ∷ 101 ∷ 97 ∷ 100 ∷ []

-- what is said of a value by its variable's status
abbrev pub value_word : ℕ → List ℕ
value_word zero = open_word
value_word (suc zero) = free_word
value_word (suc (suc zero)) = settled_word
value_word (suc (suc (suc s))) = dead_word

-- ---- lines, each ended by LF: `g:k` and the word

abbrev pub value_line : ℕ → ℕ → ℕ → List ℕ
value_line g k s = decimal g ++ 58 ∷ decimal k ++ value_word s ++ 10 ∷ []

-- a line a value, the first group of which is group g
abbrev pub group_lines : ℕ → List ℕ → List ℕ → List ℕ
group_lines g [] ss = []
group_lines g (n ∷ ns) ss = pieces (value_line g) 1 (take n ss) ++ group_lines (suc g) ns (drop n ss)

-- ---- the table: only the first line after 20, only the refusal if there is one

abbrev pub groups_table_by : RunAnswer → List ℕ → Report → List ℕ → List ℕ
groups_table_by RunAnswer.Settled sizes r ss = answer_line (vars_in sizes) r ++ group_lines 1 sizes ss
groups_table_by RunAnswer.Stopped sizes r ss = answer_line (vars_in sizes) r ++ group_lines 1 sizes ss
groups_table_by RunAnswer.NoModel sizes r ss = answer_line (vars_in sizes) r
groups_table_by (RunAnswer.Refused a) sizes r ss = refused_line (refusal_number a) (refusal_place a)

abbrev pub groups_table_of_run : List ℕ → Report → List ℕ → List ℕ
groups_table_of_run sizes r ss = groups_table_by r.answer sizes r ss

-- the run of the table on an expanded list, with nothing held; it does not look at the number of clauses
abbrev pub groups_run : List ℕ → List ℤ → Given
groups_run sizes list = table_given (record { vars = vars_in sizes; clauses = 0 }) list []

abbrev pub groups_table_of_list : List ℕ → List ℤ → List ℕ
groups_table_of_list sizes list = groups_table_of_run sizes (report_of (groups_run sizes list)) (status_after (groups_run sizes list))

abbrev pub groups_table_of_judged : GroupsJudged → List ℕ
groups_table_of_judged (refused a) = refused_line (groups_number a) (groups_place a)
groups_table_of_judged (accepted sizes c es) = groups_table_of_list sizes (expanded_entries sizes es)

-- the table of a file of groups
unfoldable pub groups_table_of : List ℕ → List ℕ
groups_table_of text = groups_table_of_judged (judge_groups max_entries max_groups text)

-- ---- what a printing promises of its result and of the buffer: the bytes, and how many they are; nothing, and 0, where the buffer is
-- shorter than they may be

abbrev pub max_groups_table : ℕ
max_groups_table = 4096

pub record PrintsGroups (text before : List ℕ) (count : ℕ) (after : List ℕ) : Type 0 where
  pub count_is : count ≡ count_if_room (leb max_groups_table (length before)) (groups_table_of text)
  pub after_is : after ≡ bytes_if_room (leb max_groups_table (length before)) (groups_table_of text) before
