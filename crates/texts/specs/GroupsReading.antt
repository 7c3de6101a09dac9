-- docs/RULES.md, "Groups": the judgement of a file of groups from left to right, what its reading returns, and what the entries and the
-- sizes hold afterwards. Assumes nothing.
use Rattle.std.specs.Prelude.{◌≡◌, Bool, true, false, not, ◌&&◌, ◌||◌, List, [], ◌∷◌, ◌++◌, ℕ, zero, suc, ◌+◌, ◌-◌, leb, ltb, ℤ, pos, negsuc, length}
use Rattle.std.specs.Prelude.{drop, replicate}
use Rattle.std.proofs.Math.Option.{Option, none, some}
use Rattle.rules.specs.declared.GroupsAnswer.{GroupsAnswer}
use Rattle.rules.specs.declared.GroupsReading.{GroupsReading}
use Rattle.rules.specs.Lists.{count, Check, check, first_of, is_zero}
use Rattle.rules.specs.Numbers.{max_text, max_vars, max_clauses, max_entries, groups_number}
use Rattle.rules.specs.Meaning.{var_of}
use Rattle.texts.specs.Text.{Piece, entry_of}
use Rattle.texts.specs.Tokens.{all_tokens}
use Rattle.texts.specs.Reading.{filled}
use Rattle.texts.specs.Groups.{max_groups, min_size, max_size, vars_in, groups_from, expanded_entries}

-- ---- the parts of a file: what has been read, and what is due

pub data Part : Type 0 where
  -- the number of groups
  groups_due : Part
  -- so many sizes behind those read; the number of clauses, if none
  sizes_due : ℕ → List ℕ → Part
  -- behind the sizes and the number of clauses, entries behind those read
  entries_due : List ℕ → ℕ → List ℤ → Part

-- what is due behind a number
abbrev pub next : Part → ℤ → Part
next groups_due l = sizes_due (var_of l) []
next (sizes_due zero sizes) l = entries_due sizes (var_of l) []
next (sizes_due (suc n) sizes) l = sizes_due n (sizes ++ var_of l ∷ [])
next (entries_due sizes c es) l = entries_due sizes c (es ++ l ∷ [])

-- a number from low to high
abbrev pub is_between : ℕ → ℕ → ℤ → Bool
is_between low high (pos n) = leb low n && leb n high
is_between low high (negsuc n) = false

-- the order at one token is 5, 16, 4, 6, 7
abbrev pub number_rules : Part → ℕ → ℤ → List (Check GroupsAnswer)
number_rules groups_due at l = check (not (is_between 0 max_groups l)) (GroupsAnswer.BadGroup at) ∷ []
number_rules (sizes_due zero sizes) at l = check (not (is_between 0 max_clauses l)) (GroupsAnswer.OverSizes at) ∷ []
number_rules (sizes_due (suc n) sizes) at l =
    check (not (is_between min_size max_size l)) (GroupsAnswer.BadGroup at) ∷
    check (ltb max_vars (vars_in sizes + var_of l)) (GroupsAnswer.OverSizes at) ∷
    []
number_rules (entries_due sizes c es) at l =
    check (leb c (count is_zero es)) (GroupsAnswer.TokenBehind at) ∷
    check (ltb (vars_in sizes) (var_of l)) (GroupsAnswer.TokenOverVars at) ∷
    []

-- ---- the judgement

-- a file read as sizes, the number of its own clauses and their entries, or refused
pub data GroupsJudged : Type 0 where
  accepted : List ℕ → ℕ → List ℤ → GroupsJudged
  refused : GroupsAnswer → GroupsJudged

abbrev pub unless : Option GroupsAnswer → GroupsJudged → GroupsJudged
unless none rest = rest
unless (some a) rest = refused a

-- clauses of the expanded list
abbrev pub clauses_in : List ℕ → ℕ → ℕ
clauses_in sizes c = length (groups_from 0 sizes) + c

-- 11: the expanded list passes 1,024 clauses or 4,096 entries
abbrev pub is_long : List ℕ → ℕ → List ℤ → Bool
is_long sizes c es = ltb max_clauses (clauses_in sizes c) || ltb max_entries (length (expanded_entries sizes es))

-- where the text ends: 9 if it ends early, and last 11
abbrev pub end_rules : ℕ → List ℕ → ℕ → List ℤ → List (Check GroupsAnswer)
end_rules end sizes c es =
    check (ltb (count is_zero es) c) (GroupsAnswer.ShortText end) ∷
    check (is_long sizes c es) GroupsAnswer.LongList ∷
    []

abbrev pub judge_end : ℕ → Part → GroupsJudged
judge_end end groups_due = refused (GroupsAnswer.ShortText end)
judge_end end (sizes_due n sizes) = refused (GroupsAnswer.ShortText end)
judge_end end (entries_due sizes c es) = unless (first_of (end_rules end sizes c es)) (accepted sizes c es)

abbrev pub judge_token : Option ℤ → Part → ℕ → (Part → GroupsJudged) → GroupsJudged
judge_token none p at rest = refused (GroupsAnswer.BadToken at)
judge_token (some l) p at rest = unless (first_of (number_rules p at l)) (rest (next p l))

unfoldable pub judge_parts : ℕ → Part → List Piece → GroupsJudged
judge_parts end p [] = judge_end end p
judge_parts end p (t ∷ ts) = judge_token (entry_of t.bytes) p t.at (λ q. judge_parts end q ts)

-- ---- the whole: 1, 2, then left to right. The buffers that are lent have room for so many entries and sizes

unfoldable pub judge_groups : ℕ → ℕ → List ℕ → GroupsJudged
judge_groups entries sizes text =
    unless
    (first_of
    (check (ltb entries max_entries || ltb sizes max_groups) GroupsAnswer.ShortBuffer ∷ check (ltb max_text (length text)) GroupsAnswer.LongText ∷ []))
    (judge_parts (length text) groups_due (all_tokens text))

-- what is returned: all counts are zero if the text is refused
abbrev pub groups_returned : GroupsJudged → GroupsReading
groups_returned (accepted sizes c es) =
    record {
      answer = GroupsAnswer.Accepted;
      groups = length sizes;
      vars = vars_in sizes;
      clauses = clauses_in sizes c;
      entries = length (expanded_entries sizes es);
    }
groups_returned (refused a) = record { answer = a; groups = 0; vars = 0; clauses = 0; entries = 0 }

-- what the buffers hold: the list, then zeros; all zeros after a refusal, but nothing is written after 1 and 2. The rest stays
abbrev pub sizes_filled : List ℕ → List ℕ → List ℕ
sizes_filled sizes before = sizes ++ replicate (max_groups - length sizes) 0 ++ drop max_groups before

-- neither 1 nor 2
abbrev pub clears : GroupsAnswer → Bool
clears a = leb 3 (groups_number a)

abbrev pub cleared_if : {A : Type 0} → Bool → A → A → A
cleared_if true cleared before = cleared
cleared_if false cleared before = before

abbrev pub entries_written : GroupsJudged → List ℤ → List ℤ
entries_written (accepted sizes c es) before = filled (expanded_entries sizes es) before
entries_written (refused a) before = cleared_if (clears a) (filled [] before) before

abbrev pub sizes_written : GroupsJudged → List ℕ → List ℕ
sizes_written (accepted sizes c es) before = sizes_filled sizes before
sizes_written (refused a) before = cleared_if (clears a) (sizes_filled [] before) before

-- what is given: the text, and the buffers as they are lent
pub record GroupsGiven : Type 0 where
  pub text : List ℕ
  pub entries : List ℤ
  pub sizes : List ℕ

abbrev pub groups_given : List ℕ → List ℤ → List ℕ → GroupsGiven
groups_given text entries sizes = record { text = text; entries = entries; sizes = sizes }

unfoldable pub judged_of : GroupsGiven → GroupsJudged
judged_of g = judge_groups (length g.entries) (length g.sizes) g.text

unfoldable pub groups_reading_of : GroupsGiven → GroupsReading
groups_reading_of g = groups_returned (judged_of g)

unfoldable pub groups_entries_after : GroupsGiven → List ℤ
groups_entries_after g = entries_written (judged_of g) g.entries

unfoldable pub groups_sizes_after : GroupsGiven → List ℕ
groups_sizes_after g = sizes_written (judged_of g) g.sizes

-- what is promised of the result and of the buffers
pub record ReadsGroups (g : GroupsGiven) (result : GroupsReading) (entries : List ℤ) (sizes : List ℕ) : Type 0 where
  pub result_is : result ≡ groups_reading_of g
  pub entries_are : entries ≡ groups_entries_after g
  pub sizes_are : sizes ≡ groups_sizes_after g
