-- Files of claims (docs/RULES.md, "Claims"), computed: one table, one theorem. Small formulas, each sentence of the page at its edge.
--
--   claims_cases_lem      the definitions give what each line says
--
-- Assumes nothing.
use mathlib.Core.Path.{◌≡◌, refl}
use mathlib.Core.Bool.{Bool, true}
use mathlib.Core.List.{List, [], ◌∷◌}
use Prim.Native.Nat.{ℕ}
use Prim.Native.String.{String}
use lib.IntN.{ℤ, pos, negsuc}
use lib.ListN.{replicate}
use Rattle.rules.specs.Numbers.{claims_number, claims_place}
use Rattle.rules.specs.Lists.{all, eqs}
use Rattle.rules.specs.declared.ClaimsAnswer.{ClaimsAnswer}
use Rattle.texts.specs.Text.{numeral, entry_of}
use Rattle.texts.specs.ClaimsReading.{claims_given, judge_parts, claims_refusal, judge_claims, claims_answer}
use Rattle.rules.proofs.Quoted.{quoted}

-- V, the entries, the text; and answer, place and, if it is accepted, the number of claims
pub record ClaimsCase : Type 0 where
  pub vars : ℕ
  pub entries : List ℤ
  pub text : List ℕ
  pub numbers : List ℕ

abbrev line : ℕ → List ℤ → String → List ℕ → ClaimsCase
line vars es text numbers = record { vars = vars; entries = es; text = quoted text; numbers = numbers }

abbrev numbers_of : ClaimsAnswer → List ℕ
numbers_of (ClaimsAnswer.Accepted n) = 0 ∷ 0 ∷ n ∷ []
numbers_of ClaimsAnswer.LongText = claims_number ClaimsAnswer.LongText ∷ claims_place ClaimsAnswer.LongText ∷ []
numbers_of (ClaimsAnswer.BadToken at) = claims_number (ClaimsAnswer.BadToken at) ∷ claims_place (ClaimsAnswer.BadToken at) ∷ []
numbers_of (ClaimsAnswer.Rejected at) = claims_number (ClaimsAnswer.Rejected at) ∷ claims_place (ClaimsAnswer.Rejected at) ∷ []
numbers_of (ClaimsAnswer.Refused a) = claims_number (ClaimsAnswer.Refused a) ∷ claims_place (ClaimsAnswer.Refused a) ∷ []

abbrev pub passes : ClaimsCase → Bool
passes c = eqs (numbers_of (claims_answer (claims_given c.entries c.vars c.text))) c.numbers

-- `1 0`; `1 2 0 1 -2 0`, which forces 1; `1 2 0`, which forces nothing
abbrev one : List ℤ
one = pos 1 ∷ pos 0 ∷ []

abbrev two : List ℤ
two = pos 1 ∷ pos 2 ∷ pos 0 ∷ pos 1 ∷ negsuc 1 ∷ pos 0 ∷ []

abbrev either : List ℤ
either = pos 1 ∷ pos 2 ∷ pos 0 ∷ []

abbrev pub claims_cases : List ClaimsCase
claims_cases =
    -- no variable and no clause; a clause that is empty is failed by every model, and a tree may end in it
    line 0 [] "0 0" (0 ∷ 0 ∷ 0 ∷ []) ∷
    line 0 (pos 0 ∷ []) "0 0" (17 ∷ 0 ∷ []) ∷
    -- an end alone, and a split: the tree for false, then the tree for true
    line 1 one "1 1 1 1 1" (0 ∷ 0 ∷ 1 ∷ []) ∷
    line 2 two "2 1 -2 1 1 -2 1 2" (0 ∷ 0 ∷ 1 ∷ []) ∷
    line 2 two "2 1 2\n2\n1 -2 1 2\n1 -2 1 2\n" (0 ∷ 0 ∷ 2 ∷ []) ∷
    -- the two subtrees exchanged: the first end is at fault
    line 2 two "2 1 -2 1 1 -2 2 1" (17 ∷ 14 ∷ []) ∷
    -- the model alone, with no claim
    line 2 either "2 -1 2 0" (0 ∷ 0 ∷ 0 ∷ []) ∷
    -- the model's count is not V
    line 2 two "1 1 -2 0" (17 ∷ 0 ∷ []) ∷
    line 2 two " -2 1 -2 0" (17 ∷ 1 ∷ []) ∷
    -- the model fails a clause: the place of the count, judged when the model has been read, before a malformed token behind it
    line 2 two " 2 -1 -2 0" (17 ∷ 1 ∷ []) ∷
    line 2 two " 2 -1 -2 x" (17 ∷ 1 ∷ []) ∷
    line 2 two " 2 -1 -2" (17 ∷ 1 ∷ []) ∷
    -- a malformed token or the end of the text inside the model come before that
    line 2 two " 2 -1 x" (5 ∷ 6 ∷ []) ∷
    line 2 two " 2 -1" (17 ∷ 5 ∷ []) ∷
    -- a literal of the wrong variable, before a failing clause; 0 is one
    line 2 two "2 -1 -3 0" (17 ∷ 5 ∷ []) ∷
    line 2 two "2 0 -2 0" (17 ∷ 2 ∷ []) ∷
    line 2 two "2 2 1 0" (17 ∷ 2 ∷ []) ∷
    -- the number of claims: missing, negative, more than there are, fewer
    line 2 two "2 1 2" (17 ∷ 5 ∷ []) ∷
    line 2 two "2 1 2 -1" (17 ∷ 6 ∷ []) ∷
    line 2 two "2 1 2 1" (17 ∷ 7 ∷ []) ∷
    line 2 two "2 1 2 0 1" (17 ∷ 8 ∷ []) ∷
    line 2 two "2 1 2 0 x" (5 ∷ 8 ∷ []) ∷
    line 2 two "2 1 2 999999999" (17 ∷ 15 ∷ []) ∷
    -- a claim that is 0, or above V
    line 2 two "2 1 2 1 0 1" (17 ∷ 8 ∷ []) ∷
    line 2 two "2 1 2 1 -3 1" (17 ∷ 8 ∷ []) ∷
    -- an end that is 0, or above the clauses
    line 2 two "2 1 2 1 1 0" (17 ∷ 10 ∷ []) ∷
    line 2 two "2 1 2 1 1 3" (17 ∷ 10 ∷ []) ∷
    -- an end whose clause has an unset literal, or a true one
    line 2 two "2 1 2 1 1 1" (17 ∷ 10 ∷ []) ∷
    line 2 two "2 1 2 1 1 -2 1 1" (17 ∷ 15 ∷ []) ∷
    -- a split above V, on the claim's variable, on one that was split above
    line 2 two "2 1 2 1 1 -3 1 1" (17 ∷ 10 ∷ []) ∷
    line 2 two "2 1 2 1 1 -1 1 1" (17 ∷ 10 ∷ []) ∷
    line 2 two "2 1 2 1 1 -2 -2 1 1 2" (17 ∷ 13 ∷ []) ∷
    -- a variable that was split is unset again behind its subtrees
    line 3 two "3 1 2 3 1 1 -3 -2 1 2 -2 1 2" (0 ∷ 0 ∷ 1 ∷ []) ∷
    -- a tree that is cut off, in each subtree
    line 2 two "2 1 2 1 1" (17 ∷ 9 ∷ []) ∷
    line 2 two "2 1 2 1 1 -2 " (17 ∷ 13 ∷ []) ∷
    line 2 two "2 1 2 1 1 -2 1" (17 ∷ 14 ∷ []) ∷
    -- it is the claim's negation that is set, not the claim: -1 is not forced
    line 2 two "2 1 2 1 -1 -2 1 2" (17 ∷ 14 ∷ []) ∷
    -- a literal that is not forced has no tree
    line 2 either "2 1 2 1 1 -2 1 1" (17 ∷ 15 ∷ []) ∷
    -- tokens alone: no comment and no `%`; 5 before 17 at one token
    line 2 two "c\n2 1 2 0" (5 ∷ 0 ∷ []) ∷
    line 2 two "2 1 2 0 %" (5 ∷ 8 ∷ []) ∷
    line 2 two "2 1 2 1 1 -0" (5 ∷ 10 ∷ []) ∷
    line 2 two "2 1 2 1 1 1000000000" (5 ∷ 10 ∷ []) ∷
    -- an empty text, and one of blanks
    line 0 [] "" (17 ∷ 0 ∷ []) ∷
    line 0 [] " \n" (17 ∷ 2 ∷ []) ∷
    -- the formula comes first: 10, 11, 12
    line 257 one "x" (10 ∷ 0 ∷ []) ∷
    line 1 (pos 1 ∷ []) "x" (11 ∷ 1 ∷ []) ∷
    line 1 two "x" (12 ∷ 1 ∷ []) ∷
    []

pub claims_cases_lem : all passes claims_cases ≡ true
unfolding claims_answer claims_refusal judge_claims judge_parts numeral entry_of
claims_cases_lem = refl

-- 2 comes behind the formula's refusals, and before all that is read of the text
pub claims_long : (claims_answer (claims_given [] 0 (replicate 32769 120)) ≡ ClaimsAnswer.LongText)
    × (claims_answer (claims_given [] 0 (replicate 32768 32)) ≡ ClaimsAnswer.Rejected 32768)
unfolding claims_answer claims_refusal judge_claims judge_parts numeral entry_of
claims_long = (refl, refl)
