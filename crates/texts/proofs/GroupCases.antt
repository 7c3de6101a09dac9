-- Files of groups (docs/RULES.md, "Groups"), computed: one table, one theorem. Small texts, each number at its edge, and the expanded list
-- of some of them. The buffers are lent as long as they must be.
--
--   group_cases_lem       the definitions give what each line says
--   group_lists       the expanded lists, entry by entry
--
-- Assumes nothing.
use mathlib.Core.Path.{◌≡◌, refl}
use mathlib.Core.Bool.{Bool, true}
use mathlib.Core.List.{List, [], ◌∷◌, ◌++◌}
use Prim.Native.Nat.{ℕ, zero, suc}
use Prim.Native.String.{String}
use lib.IntN.{ℤ, pos, negsuc}
use lib.ListN.{take, replicate}
use Rattle.rules.specs.Numbers.{groups_number, groups_place}
use Rattle.rules.specs.Lists.{all, eqs}
use Rattle.texts.specs.Text.{numeral, entry_of}
use Rattle.texts.specs.Groups.{expanded_entries}
use Rattle.texts.specs.GroupsReading.{judge_parts, judge_groups, GroupsGiven, groups_given, judged_of}
use Rattle.texts.specs.GroupsReading.{groups_reading_of, groups_entries_after, groups_sizes_after}
use Rattle.rules.proofs.Quoted.{quoted}

-- a text, so many times in a row
abbrev times : ℕ → String → List ℕ
times zero s = []
times (suc n) s = quoted s ++ times n s

-- the text, and answer, place, groups, variables, clauses and entries
pub record GroupCase : Type 0 where
  pub text : List ℕ
  pub numbers : List ℕ

abbrev line : List ℕ → List ℕ → GroupCase
line text numbers = record { text = text; numbers = numbers }

abbrev refused_at : List ℕ → ℕ → ℕ → GroupCase
refused_at text number place = line text (number ∷ place ∷ 0 ∷ 0 ∷ 0 ∷ 0 ∷ [])

abbrev given_of : List ℕ → GroupsGiven
given_of text = groups_given text (replicate 4096 (pos 7)) (replicate 128 7)

abbrev numbers_of : List ℕ → List ℕ
numbers_of text =
    let r = groups_reading_of (given_of text) in
    groups_number r.answer ∷ groups_place r.answer ∷ r.groups ∷ r.vars ∷ r.clauses ∷ r.entries ∷ []

abbrev pub passes : GroupCase → Bool
passes c = eqs (numbers_of c.text) c.numbers

abbrev pub group_cases : List GroupCase
group_cases =
    -- no group: no clause, an empty one; one that no variable may stand in
    line (quoted "0 0") (0 ∷ 0 ∷ 0 ∷ 0 ∷ 0 ∷ 0 ∷ []) ∷
    line (quoted "0 1 0") (0 ∷ 0 ∷ 0 ∷ 0 ∷ 1 ∷ 1 ∷ []) ∷
    refused_at (quoted "0 1 1 0") 7 4 ∷
    -- groups alone, and with clauses of their own
    line (quoted "1 2 0") (0 ∷ 0 ∷ 1 ∷ 2 ∷ 2 ∷ 6 ∷ []) ∷
    line (quoted "2\n3 2\n1\n-1 5 0\n") (0 ∷ 0 ∷ 2 ∷ 5 ∷ 7 ∷ 22 ∷ []) ∷
    line (quoted "1 16 0") (0 ∷ 0 ∷ 1 ∷ 16 ∷ 121 ∷ 377 ∷ []) ∷
    -- 5, before 16, 4, 6 and 7: at each part; no comment and no `%`
    refused_at (quoted "c 1 2 0") 5 0 ∷
    refused_at (quoted "1 -0 0") 5 2 ∷
    refused_at (quoted "1 2 x") 5 4 ∷
    refused_at (quoted "1 2 1 1 0 %") 5 10 ∷
    refused_at (quoted "1 2 1 +1 0") 5 6 ∷
    -- 16: groups from 0 to 128, sizes from 2 to 16
    refused_at (quoted "-1 0") 16 0 ∷
    refused_at (quoted "129 2") 16 0 ∷
    refused_at (quoted "128") 9 3 ∷
    refused_at (quoted "1 1 0") 16 2 ∷
    refused_at (quoted "1 17 0") 16 2 ∷
    refused_at (quoted "1 -2 0") 16 2 ∷
    refused_at (quoted " 2 2 0") 16 5 ∷
    -- 4: the size that passes 256 variables, after 16; clauses from 0 to 1,024
    refused_at (quoted "17" ++ times 16 " 16") 9 50 ∷
    refused_at (quoted "17" ++ times 16 " 16" ++ quoted " 2") 4 51 ∷
    refused_at (quoted "17" ++ times 16 " 16" ++ quoted " 1") 16 51 ∷
    refused_at (quoted "0 -1") 4 2 ∷
    refused_at (quoted "0 1025") 4 2 ∷
    refused_at (quoted "0 1024") 9 6 ∷
    -- 6 before 7: behind the last clause, above the last variable
    refused_at (quoted "1 2 1 0 9") 6 8 ∷
    refused_at (quoted "1 2 0 0") 6 6 ∷
    refused_at (quoted "1 2 1 2 3 0") 7 8 ∷
    refused_at (quoted "1 2 1 2 -3 0") 7 8 ∷
    -- 9: in each part
    refused_at [] 9 0 ∷
    refused_at (quoted " \n") 9 2 ∷
    refused_at (quoted "1") 9 1 ∷
    refused_at (quoted "1 2 ") 9 4 ∷
    refused_at (quoted "1 2 1 ") 9 6 ∷
    refused_at (quoted "1 2 1 1 -2") 9 10 ∷
    -- 11: eight groups of 16 values are 968 clauses and 3,016 entries, and nine are over both
    line (quoted "8" ++ times 8 " 16" ++ quoted " 0") (0 ∷ 0 ∷ 8 ∷ 128 ∷ 968 ∷ 3016 ∷ []) ∷
    refused_at (quoted "9" ++ times 9 " 16" ++ quoted " 0") 11 0 ∷
    -- 1,024 clauses and 1,025; 9 before 11
    line (quoted "8" ++ times 8 " 16" ++ quoted " 56 " ++ times 56 "0 ") (0 ∷ 0 ∷ 8 ∷ 128 ∷ 1024 ∷ 3072 ∷ []) ∷
    refused_at (quoted "8" ++ times 8 " 16" ++ quoted " 57 " ++ times 57 "0 ") 11 0 ∷
    refused_at (quoted "9" ++ times 9 " 16" ++ quoted " 1") 9 30 ∷
    []

pub group_cases_lem : all passes group_cases ≡ true
unfolding judged_of groups_reading_of judge_groups judge_parts numeral entry_of expanded_entries
group_cases_lem = refl

-- a literal below 0
abbrev neg : ℕ → ℤ
neg zero = pos 0
neg (suc n) = negsuc n

-- a group of three values, one of two, and a clause: each group's own clause, then its pairs by lower and then higher number
pub group_lists : (take 24 (groups_entries_after (given_of (quoted "2 3 2 1 -1 5 0"))) ≡
    pos 1 ∷ pos 2 ∷ pos 3 ∷ pos 0 ∷ neg 1 ∷ neg 2 ∷ pos 0 ∷ neg 1 ∷ neg 3 ∷ pos 0 ∷ neg 2 ∷ neg 3 ∷ pos 0 ∷
    pos 4 ∷ pos 5 ∷ pos 0 ∷ neg 4 ∷ neg 5 ∷ pos 0 ∷ neg 1 ∷ pos 5 ∷ pos 0 ∷ pos 0 ∷ pos 0 ∷ [])
    × (take 4 (groups_sizes_after (given_of (quoted "2 3 2 1 -1 5 0"))) ≡ 3 ∷ 2 ∷ 0 ∷ 0 ∷ [])
    × (take 3 (groups_entries_after (given_of (quoted "1 2 x"))) ≡ pos 0 ∷ pos 0 ∷ pos 0 ∷ [])
unfolding judged_of groups_entries_after groups_sizes_after judge_groups judge_parts numeral entry_of expanded_entries
group_lists = (refl, refl, refl)
