-- docs/RULES.md, "The printed reason": the bytes that are printed for a text and a literal. Assumes nothing.
use Rattle.std.specs.Prelude.{◌≡◌, List, [], ◌∷◌, ◌++◌, ℕ, zero, suc, pred, leb, ℤ, length, get_or, replicate}
use Rattle.rules.specs.declared.WhyAnswer.{WhyAnswer}
use Rattle.rules.specs.declared.WhyReport.{WhyReport}
use Rattle.rules.specs.Lists.{pieces}
use Rattle.rules.specs.Numbers.{max_entries, read_number, read_place, refusal_number, refusal_place}
use Rattle.rules.specs.Meaning.{Clause, clauses}
use Rattle.texts.specs.Reading.{Judged, accepted, refused, judge}
use Rattle.texts.specs.Plain.{decimal, plain_entry}
use Rattle.texts.specs.Printed.{answer_word, calls_word, tries_word, refused_line, count_if_room, bytes_if_room}
use Rattle.texts.specs.ModelLine.{model_line}
use Rattle.rules.specs.Why.{WhyGiven, why_given, why_number, why_report_of, marks_after, why_values_after, marked, no_marks}

-- ---- words

-- " kept "
abbrev pub kept_word : List ℕ
kept_word = 32 ∷ 107 ∷ 101 ∷ 112 ∷ 116 ∷ 32 ∷ []

-- "clause "
abbrev pub clause_word : List ℕ
clause_word = 99 ∷ 108 ∷ 97 ∷ 117 ∷ 115 ∷ 101 ∷ 32 ∷ []

-- ---- lines, each ended by LF

-- the returned numbers, and how many clauses are kept
abbrev pub why_line : WhyReport → ℕ → List ℕ
why_line r kept =
    answer_word ++ decimal (why_number r.answer) ++
    calls_word ++ decimal r.calls ++
    tries_word ++ decimal r.tries ++
    kept_word ++ decimal kept ++
    10 ∷ []

-- a literal behind a space
abbrev pub spaced_literal : ℕ → ℤ → List ℕ
spaced_literal i l = 32 ∷ plain_entry l

-- clause n with its literals as they stand in the text
abbrev pub clause_line : ℕ → Clause → List ℕ
clause_line n cl = clause_word ++ decimal n ++ 58 ∷ pieces spaced_literal 1 cl ++ 10 ∷ []

abbrev pub line_if : ℕ → ℕ → Clause → List ℕ
line_if zero n cl = []
line_if (suc mark) n cl = clause_line n cl

-- a line for each clause whose mark is not 0
abbrev pub kept_line : List ℕ → ℕ → Clause → List ℕ
kept_line marks n cl = line_if (get_or marks (pred n) 0) n cl

abbrev pub kept_lines : List ℕ → List Clause → List ℕ
kept_lines marks F = pieces (kept_line marks) 1 F

-- ---- what is printed: the clauses after 0, the model after 22, only the first line after 20 and 21, only the refusal if there is one

abbrev pub why_text_by : WhyAnswer → WhyReport → List Clause → List ℕ → List ℕ → List ℕ
why_text_by WhyAnswer.Kept r F marks values = why_line r (length (marked marks F)) ++ kept_lines marks F
why_text_by WhyAnswer.NoModel r F marks values = why_line r 0
why_text_by WhyAnswer.Stopped r F marks values = why_line r 0
why_text_by WhyAnswer.NotForced r F marks values = why_line r 0 ++ model_line values
why_text_by (WhyAnswer.Refused a) r F marks values = refused_line (refusal_number a) (refusal_place a)

abbrev pub why_text_of_report : WhyReport → List Clause → List ℕ → List ℕ → List ℕ
why_text_of_report r F marks values = why_text_by r.answer r F marks values

abbrev pub why_budget : ℕ
why_budget = 1000000

-- that budget, with buffers of just the size
abbrev pub why_asked : ℕ → List ℤ → ℤ → WhyGiven
why_asked vars es l = why_given es vars l why_budget no_marks (replicate vars 0)

abbrev pub why_text_of_list : ℕ → List ℤ → ℤ → List ℕ
why_text_of_list vars es l =
    let g = why_asked vars es l in
    why_text_of_report (why_report_of g) (clauses es) (marks_after g) (why_values_after g)

abbrev pub why_text_of_judged : Judged → ℤ → List ℕ
why_text_of_judged (refused a) l = refused_line (read_number a) (read_place a)
why_text_of_judged (accepted s es) l = why_text_of_list s.vars es l

unfoldable pub why_text_of : List ℕ → ℤ → List ℕ
why_text_of text l = why_text_of_judged (judge max_entries text) l

-- ---- what a printing promises of its result and of the buffer: the bytes, and how many they are; nothing, and 0, where the buffer is
-- shorter than they may be

abbrev pub max_why : ℕ
max_why = 32768

pub record PrintsWhy (text : List ℕ) (l : ℤ) (before : List ℕ) (count : ℕ) (after : List ℕ) : Type 0 where
  pub count_is : count ≡ count_if_room (leb max_why (length before)) (why_text_of text l)
  pub after_is : after ≡ bytes_if_room (leb max_why (length before)) (why_text_of text l) before
