-- docs/RULES.md, "Groups", in the struct that C and Rust get: the answer by its number and its place. Assumes nothing.
use Rattle.std.specs.Prelude.{◌≡◌, List, ℕ, ◌≤◌, ℤ}
use Rattle.rules.specs.declared.GroupsReading.{GroupsReading}
use Rattle.rules.specs.Numbers.{max_text, max_entries, groups_number, groups_place}
use Rattle.texts.specs.GroupsReading.{GroupsGiven, groups_reading_of, groups_entries_after, groups_sizes_after}
use Rattle.igbezolum.specs.declared.group.IgbGroups.{IgbGroups}

abbrev pub groups_numbers : GroupsReading → IgbGroups
groups_numbers r =
    record {
      answer = groups_number r.answer;
      place = groups_place r.answer;
      groups = r.groups;
      vars = r.vars;
      clauses = r.clauses;
      count = r.entries;
    }

-- what is promised, in numbers
pub record ReadsGroupsIn (g : GroupsGiven) (result : IgbGroups) (entries : List ℤ) (sizes : List ℕ) : Type 0 where
  pub result_is : result ≡ groups_numbers (groups_reading_of g)
  pub entries_are : entries ≡ groups_entries_after g
  pub sizes_are : sizes ≡ groups_sizes_after g

-- place and count fit the fields of the struct
pub record GroupsFit (r : GroupsReading) : Type 0 where
  pub place_fits : groups_place r.answer ≤ max_text
  pub count_fits : r.entries ≤ max_entries
