-- The laws of the lines: fields as they are put, literals with their sign, and the clauses that are kept.
--
--   starts_len        how many starts there are
--   why_line_lem          the fields of the first line
--   clause_line_lem       the fields of a clause's line
--   length_marked     as many clauses are kept as marks are not 0
--   line_gone      the line of a clause by its mark
--   kept_at           the piece of the clause at an index
--
-- Assumes nothing.
use mathlib.Core.Path.{◌≡◌, refl, sym, ◌∙◌, ap}
use mathlib.Core.List.{List, [], ◌∷◌, ◌++◌, append_assoc}
use Prim.Native.Nat.{ℕ, zero, suc, ◌+◌, ◌<◌}
use native.Mathlib.Omega.{arith}
use native.Mathlib.Numerals.{add-one}
use lib.IntN.{ℤ}
use lib.ListN.{length, get_or, take}
use Rattle.rules.specs.declared.WhyReport.{WhyReport}
use Rattle.rules.specs.Lists.{is_set, count, pieces}
use Rattle.rules.specs.Meaning.{Clause, clauses}
use Rattle.texts.specs.Plain.{decimal}
use Rattle.texts.specs.Printed.{answer_word, calls_word, tries_word}
use Rattle.rules.specs.Why.{why_number, marked}
use Rattle.texts.specs.WhyPrinted.{kept_word, clause_word, why_line, spaced_literal, clause_line, line_if, kept_line}
use Rattle.lines.specs.Lines.{count_fields}
use Rattle.formula.specs.Starts.{starts_of, clause_at}
use Rattle.formula.proofs.StartsLaws.{length-starts_of}
use Rattle.formula.proofs.ClauseLaws.{clause_at_formula}

-- ---- where the clauses start

pub starts_len : (es : List ℤ) {starts : List ℕ} → starts ≡ starts_of es → length starts ≡ length (clauses es) + 1
starts_len es e = ap length e ∙ omega (arith, length-starts_of es)

-- ---- fields

fields_row : (a b c d e f x y n : List ℕ) → ((a ++ b) ++ ((c ++ d) ++ (e ++ f))) ++ ((x ++ y) ++ n) ≡ a ++ b ++ c ++ d ++ e ++ f ++ x ++ y ++ n
fields_row a b c d e f x y n = simp append_assoc refl

pub why_line_lem : (r : WhyReport) (kept : ℕ)
    → count_fields (why_number r.answer) r.calls r.tries ++ ((kept_word ++ decimal kept) ++ 10 ∷ []) ≡ why_line r kept
why_line_lem r kept =
    fields_row answer_word (decimal (why_number r.answer)) calls_word (decimal r.calls) tries_word (decimal r.tries) kept_word (decimal kept) (10 ∷ [])

pub clause_line_lem : (n : ℕ) (cl : Clause) → (clause_word ++ decimal n) ++ ((58 ∷ []) ++ (pieces spaced_literal 1 cl ++ (10 ∷ []))) ≡ clause_line n cl
clause_line_lem n cl = simp append_assoc refl

-- ---- the marks that are not 0

pub length_marked : (ms : List ℕ) (F : List Clause) → length (marked ms F) ≡ count is_set (take (length F) ms)
length_marked [] [] = refl
length_marked [] (cl ∷ F) = refl
length_marked (m ∷ ms) [] = refl
length_marked (zero ∷ ms) (cl ∷ F) = length_marked ms F
length_marked (suc m ∷ ms) (cl ∷ F) = ap suc (length_marked ms F)

-- ---- the line of a clause

pub line_gone : (mark n : ℕ) (cl : Clause) → mark ≡ 0 → [] ≡ line_if mark n cl
line_gone mark n cl e = rw e

-- as it is looked up by its number
pub kept_at : (es : List ℤ) (marks : List ℕ) (i : ℕ) → i < length (clauses es)
    → line_if (get_or marks i 0) (i + 1) (clause_at es [] (i + 1)) ≡ kept_line marks (i + 1) (get_or (clauses es) i [])
kept_at es marks i h = rw add-one (ap (line_if (get_or marks i 0) (suc i)) (sym (clause_at_formula es [] (suc i) (omega arith) (omega arith))))
