-- The table of docs/RULES.md, "The printed groups": what it is put from. Assumes nothing.
use Rattle.std.specs.Prelude.{◌≡◌, List, ℕ, ◌+◌, ◌≤◌, ℤ, length}
use Rattle.rules.specs.declared.Report.{Report}
use Rattle.rules.specs.Numbers.{max_vars}
use Rattle.rules.specs.RunRefusals.{Accepted}
use Rattle.texts.specs.Groups.{max_groups, vars_in}
use Rattle.texts.specs.GroupsPrinted.{group_lines, groups_table_of_run, groups_table_of_list, groups_run}
use Rattle.buffers.specs.Put.{Room}
use Rattle.printed.specs.Table.{Ran}

-- what the lines of all groups require: room, and a status for each value
pub record LinesOver (at : ℕ) (sizes ss out : List ℕ) : Type 0 where
  pub room : Room at (group_lines 1 sizes ss) out
  pub few : length sizes ≤ max_groups
  pub statuses_are : length ss ≡ vars_in sizes
  pub vars_fit : length ss ≤ max_vars

-- a run that is over, its statuses, and room for its table
pub record TableReady (sizes : List ℕ) (vars : ℕ) (r : Report) (ss out : List ℕ) : Type 0 where
  pub ran : Ran r.answer
  pub vars_are : vars ≡ vars_in sizes
  pub counted : r.forced + r.free ≤ vars
  pub few : length sizes ≤ max_groups
  pub statuses_are : length ss ≡ vars_in sizes
  pub vars_fit : length ss ≤ max_vars
  pub room : Room 0 (groups_table_of_run sizes r ss) out

-- an expanded list that no rule refuses, and room for its table
pub record ListReady (sizes : List ℕ) (vars : ℕ) (list : List ℤ) (out : List ℕ) : Type 0 where
  pub runs : Accepted (groups_run sizes list)
  pub vars_are : vars ≡ vars_in sizes
  pub few : length sizes ≤ max_groups
  pub room : Room 0 (groups_table_of_list sizes list) out
