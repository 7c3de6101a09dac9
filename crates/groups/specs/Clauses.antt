-- What src/clauses.rt reads and stores. Assumes nothing.
use Rattle.std.specs.Prelude.{◌≡◌, Bool, true, false, List, [], ◌++◌, ℕ, ◌+◌, ◌≤◌, ltb, ℤ, length, set, take, drop, Result, Ok, Err}
use Rattle.rules.specs.Lists.{count, is_zero}
use Rattle.rules.specs.Numbers.{max_entries}
use Rattle.texts.specs.Groups.{vars_in}
use Rattle.texts.specs.GroupsReading.{entries_due, refused, judge_end}
use Rattle.rules.specs.declared.GroupsAnswer.{GroupsAnswer}
use Rattle.groups.specs.Steps.{left_at}

-- more entries than groups may have
abbrev pub max_base : ℕ
max_base = 131072

abbrev pub set_if : Bool → ℕ → ℤ → List ℤ → List ℤ
set_if true n x es = set es n x
set_if false n x es = es

-- an entry stored, if the list has room for it
abbrev pub stored_if : ℕ → ℤ → List ℤ → List ℤ
stored_if n x es = set_if (ltb n max_entries) n x es

-- some entries are read behind `base` others, up to a place: so many are complete clauses, and they stand there if there is room
pub record Clausing (text : List ℕ) (at vars clauses base : ℕ) (before : List ℤ) (to complete n : ℕ) (now : List ℤ) : Type 0 where
  pub read : List ℤ
  pub judged : (ss : List ℕ) → vars_in ss ≡ vars → left_at text (entries_due ss clauses []) at ≡ left_at text (entries_due ss clauses read) to
  pub complete_are : complete ≡ count is_zero read
  pub counted : n ≡ base + length read
  pub far : length read ≤ to
  pub within : to ≤ length text
  pub len : length now ≡ length before
  pub rest_is : drop max_entries now ≡ drop max_entries before
  pub stored : n ≤ max_entries → take n now ≡ take base before ++ read

-- nothing is refused of them, and no clause is missing
pub record Complete (text : List ℕ) (at vars clauses base : ℕ) (before : List ℤ) (n : ℕ) (after : List ℤ) : Type 0 where
  pub read : List ℤ
  pub judged : (ss : List ℕ) → vars_in ss ≡ vars → left_at text (entries_due ss clauses []) at ≡ judge_end (length text) (entries_due ss clauses read)
  pub enough : clauses ≤ count is_zero read
  pub counted : n ≡ base + length read
  pub stored : n ≤ max_entries → take n after ≡ take base before ++ read

abbrev pub JudgesClauses : List ℕ → ℕ → ℕ → ℕ → ℕ → List ℤ → Result ℕ GroupsAnswer → List ℤ → Type 0
JudgesClauses text at vars clauses base before (Err a) after =
    (ss : List ℕ) → vars_in ss ≡ vars → left_at text (entries_due ss clauses []) at ≡ refused a
JudgesClauses text at vars clauses base before (Ok n) after = Complete text at vars clauses base before n after

pub record ClausesAt (text : List ℕ) (at vars clauses base : ℕ) (before : List ℤ) (ended : Result ℕ GroupsAnswer) (after : List ℤ) : Type 0 where
  pub judges : JudgesClauses text at vars clauses base before ended after
  pub rest_is : drop max_entries after ≡ drop max_entries before
