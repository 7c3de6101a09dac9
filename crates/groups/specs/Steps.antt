-- What src/step.rt and src/sizes.rt say of what is left of a file. Assumes nothing.
use Rattle.std.specs.Prelude.{◌≡◌, List, [], ℕ, zero, suc, ◌+◌, ◌≤◌, ◌<◌, ℤ, pos, length, take, drop, Option, Some, None, Result, Ok, Err}
use Rattle.std.proofs.Math.Option.{Option as Maybe, none, some}
use Rattle.rules.specs.declared.GroupsAnswer.{GroupsAnswer}
use Rattle.rules.specs.Lists.{In, count, Check, is_zero}
use Rattle.rules.specs.Numbers.{max_vars}
use Rattle.texts.specs.Groups.{max_groups, max_size, vars_in}
use Rattle.texts.specs.GroupsReading.{Part, groups_due, sizes_due, entries_due, next, GroupsJudged, refused, judge_end, judge_parts}
use Rattle.texts.specs.GroupsRefusals.{Fits}
use Rattle.reader.specs.declared.token.Entry.{Entry}
use Rattle.reader.specs.Words.{value_of}
use Rattle.groups.specs.declared.step.Due.{Due}
use Rattle.reader.specs.Next.{tokens_at}
use Rattle.groups.specs.Stages.{group_rules, size_rules, count_rules, entry_rules}

-- ---- what is due, by what is counted

abbrev pub due_of : Part → Due
due_of groups_due = Due.Groups
due_of (sizes_due zero ss) = Due.Count
due_of (sizes_due (suc n) ss) = Due.Size (vars_in ss)
due_of (entries_due ss c es) = Due.Entry (vars_in ss) c (count is_zero es)

abbrev pub due_rules : Due → ℕ → ℤ → List (Check GroupsAnswer)
due_rules Due.Groups at l = group_rules at l
due_rules (Due.Size vars) at l = size_rules vars at l
due_rules Due.Count at l = count_rules at l
due_rules (Due.Entry vars clauses complete) at l = entry_rules vars clauses complete at l

-- no more variables are counted than there may be
abbrev pub DueFits : Due → Type 0
DueFits Due.Groups = Prim.Unit {0}
DueFits (Due.Size vars) = vars ≤ max_vars
DueFits Due.Count = Prim.Unit {0}
DueFits (Due.Entry vars clauses complete) = Prim.Unit {0}

-- a refusal, the end of text, or a number that fits, up to the byte behind it
abbrev pub Step : Type 0
Step = Result (Option (ℕ × Entry)) GroupsAnswer

abbrev pub step_if : Maybe GroupsAnswer → ℕ → Entry → Step
step_if none to e = Ok (Some (to, e))
step_if (some a) to e = Err a

-- ---- what is left of a text from a place on, as rules judges it

abbrev pub left_at : List ℕ → Part → ℕ → GroupsJudged
left_at text p at = judge_parts (length text) p (tokens_at text at)

-- a number that fits, and what is due behind it
pub record Taken (text : List ℕ) (p : Part) (at to : ℕ) (l : ℤ) : Type 0 where
  pub judged : left_at text p at ≡ left_at text (next p l) to
  pub fits : Fits p l
  pub onward : at < to
  pub within : to ≤ length text

abbrev pub Judges : List ℕ → Part → ℕ → Step → Type 0
Judges text p at (Err a) = left_at text p at ≡ refused a
Judges text p at (Ok None) = left_at text p at ≡ judge_end (length text) p
Judges text p at (Ok (Some (to, e))) = Taken text p at to (value_of e)

-- the step at a place, whatever part has this due
pub record Steps (text : List ℕ) (at : ℕ) (due : Due) (step : Step) : Type 0 where
  pub judges : (p : Part) → due_of p ≡ due → Judges text p at step

-- ---- a number of groups, of values or of clauses

-- a refusal, or a number and the byte behind it
abbrev pub Counted : Type 0
Counted = Result (ℕ × ℕ) GroupsAnswer

-- it is counted, and not one of the entries
abbrev pub Counts : Due → Type 0
Counts Due.Groups = Prim.Unit {0}
Counts (Due.Size vars) = vars ≤ max_vars
Counts Due.Count = Prim.Unit {0}
Counts (Due.Entry vars clauses complete) = ⊥

abbrev pub JudgesCount : List ℕ → Part → ℕ → Counted → Type 0
JudgesCount text p at (Err a) = left_at text p at ≡ refused a
JudgesCount text p at (Ok (to, n)) = Taken text p at to (pos n)

pub record CountsAt (text : List ℕ) (at : ℕ) (due : Due) (counted : Counted) : Type 0 where
  pub judges : (p : Part) → due_of p ≡ due → JudgesCount text p at counted

-- ---- the sizes

-- so many sizes stand in front of the buffer; the variables are theirs, and what is left is behind them
pub record Sizing (text : List ℕ) (at groups : ℕ) (before : List ℕ) (i to vars : ℕ) (now : List ℕ) : Type 0 where
  pub many : i ≤ groups
  pub len : length now ≡ length before
  pub rest_is : drop max_groups now ≡ drop max_groups before
  pub judged : (n : ℕ) → i + n ≡ groups → left_at text (sizes_due groups []) at ≡ left_at text (sizes_due n (take i now)) to
  pub vars_are : vars ≡ vars_in (take i now)
  pub vars_fit : vars ≤ max_vars
  pub small : (n : ℕ) → In n (take i now) → n ≤ max_size
  pub within : to ≤ length text

abbrev pub JudgesSizes : List ℕ → ℕ → ℕ → List ℕ → List ℕ → Counted → Type 0
JudgesSizes text at groups before after (Err a) = left_at text (sizes_due groups []) at ≡ refused a
JudgesSizes text at groups before after (Ok (to, vars)) = Sizing text at groups before groups to vars after

pub record SizesAt (text : List ℕ) (at groups : ℕ) (before : List ℕ) (counted : Counted) (after : List ℕ) : Type 0 where
  pub judges : JudgesSizes text at groups before after counted
  pub rest_is : drop max_groups after ≡ drop max_groups before
