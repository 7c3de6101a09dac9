-- What a reading of groups leaves in the buffers that are lent (src/lib.rt), before the rest is cleared. Assumes nothing.
use Rattle.std.specs.Prelude.{◌≡◌, Bool, true, false, List, [], ℕ, ◌≤◌, ltb, ℤ, length, take, drop}
use Rattle.rules.specs.declared.GroupsAnswer.{GroupsAnswer}
use Rattle.rules.specs.declared.GroupsReading.{GroupsReading}
use Rattle.rules.specs.Numbers.{max_text, max_vars, max_clauses, max_entries}
use Rattle.texts.specs.Plain.{entries_of}
use Rattle.texts.specs.Groups.{max_groups, vars_in, groups_from, expanded_entries}
use Rattle.texts.specs.GroupsReading.{GroupsJudged, accepted, refused, groups_returned}
use Rattle.groups.specs.Counts.{SizesSmall}

-- the expanded list and the sizes, if there are any
abbrev pub list_of : GroupsJudged → List ℤ
list_of (accepted ss c es) = expanded_entries ss es
list_of (refused a) = []

abbrev pub sizes_of : GroupsJudged → List ℕ
sizes_of (accepted ss c es) = ss
sizes_of (refused a) = []

-- what is returned is right, the list stands in front, and nothing is written behind the first 4,096 entries
pub record ListStores (j : GroupsJudged) (before : List ℤ) (r : GroupsReading) (after : List ℤ) : Type 0 where
  pub result_is : r ≡ groups_returned j
  pub list_is : take (length (list_of j)) after ≡ list_of j
  pub most : length (list_of j) ≤ max_entries
  pub rest_is : drop max_entries after ≡ drop max_entries before

-- the sizes stand in front too
pub record SizesStore (j : GroupsJudged) (before after : List ℕ) : Type 0 where
  pub sizes_are : take (length (sizes_of j)) after ≡ sizes_of j
  pub few : length (sizes_of j) ≤ max_groups
  pub rest_is : drop max_groups after ≡ drop max_groups before

-- what is returned of a file that is complete, by its counts
abbrev pub finished_if : Bool → Bool → GroupsReading → GroupsReading
finished_if true b r = groups_returned (refused GroupsAnswer.LongList)
finished_if false true r = groups_returned (refused GroupsAnswer.LongList)
finished_if false false r = r

abbrev pub finished_of : ℕ → ℕ → ℕ → ℕ → GroupsReading
finished_of groups vars clauses n =
    finished_if (ltb max_clauses clauses) (ltb max_entries n)
    (record { answer = GroupsAnswer.Accepted; groups = groups; vars = vars; clauses = clauses; entries = n })

-- the clauses of groups stand in front, if there is room for them, and nothing is written behind the first 4,096 entries
pub record Placed (ss : List ℕ) (before after : List ℤ) : Type 0 where
  pub len : length after ≡ length before
  pub rest_is : drop max_entries after ≡ drop max_entries before
  pub groups_are : length (entries_of (groups_from 0 ss)) ≤ max_entries
      → take (length (entries_of (groups_from 0 ss))) after ≡ entries_of (groups_from 0 ss)

-- sizes that were read and fit, behind them a place in the text, and room for entries
pub record SizesRead (text ss : List ℕ) (at vars : ℕ) (entries : List ℤ) : Type 0 where
  pub small : SizesSmall ss
  pub vars_are : vars ≡ vars_in ss
  pub vars_fit : vars ≤ max_vars
  pub within : at ≤ length text
  pub text_fits : length text ≤ max_text
  pub room : max_entries ≤ length entries

-- buffers that are long enough, and a text that is not too long
pub record Lent (text : List ℕ) (entries : List ℤ) (sizes : List ℕ) : Type 0 where
  pub text_fits : length text ≤ max_text
  pub room : max_entries ≤ length entries
  pub sizes_room : max_groups ≤ length sizes
