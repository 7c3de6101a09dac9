-- A new constraint: a mark for each of its literals, and its key under the values as they are. Assumes nothing.
use Rattle.std.specs.Prelude.{◌≡◌, Bool, true, false, List, [], ◌∷◌, ◌++◌, ℕ, ◌+◌, ◌*◌, ◌≤◌, ◌<◌, ◌^◌, ℤ, get_or, length, set}
use Rattle.rules.specs.Lists.{count_if}
use Rattle.rules.specs.Numbers.{max_vars}
use Rattle.rules.specs.Meaning.{Clause, Values, LitUpTo, is_true, is_unset}
use Rattle.formula.specs.Clauses.{ClauseUpTo}
use Rattle.board.specs.Keys.{key_of}
use Rattle.board.specs.Blocks.{HotBlocks}
use Rattle.board.specs.Holders.{code_of, is_marked, Marks, Holders}
use Rattle.board.specs.Boards.{Shows}

-- ---- one literal more in front

-- a key with l, unless it is counted already
abbrev pub key_with : Bool → Values → ℤ → ℕ → ℕ
key_with true vs l key = key
key_with false vs l key = key + (65536 * count_if (is_true vs l) 0 + count_if (is_unset vs l) 0)

pub record MarkAsked (vs : Values) (marks : List ℕ) (l : ℤ) (key : ℕ) : Type 0 where
  pub vars_fit : length vs ≤ max_vars
  pub literal : LitUpTo (length vs) l
  pub room : 2 * length vs ≤ length marks
  pub fits : key + 65536 < 2 ^ 32

pub record MarkDone (vs : Values) (marks : List ℕ) (l : ℤ) (key r : ℕ) (marks2 : List ℕ) : Type 0 where
  pub key_is : r ≡ key_with (is_marked marks (code_of l)) vs l key
  pub marks_are : marks2 ≡ set marks (code_of l) 1

-- ---- all literals

pub record MarksAsked (con : Clause) (vs : Values) (marks : List ℕ) : Type 0 where
  pub vars_fit : length vs ≤ max_vars
  pub up_to : ClauseUpTo (length vs) con
  pub room : 2 * length vs ≤ length marks
  pub blank : (k : ℕ) → get_or marks k 0 ≡ 0

pub record MarksDone (con : Clause) (vs : Values) (r : ℕ) (marks : List ℕ) : Type 0 where
  pub key_is : r ≡ key_of vs con
  pub marks_are : Marks (length vs) con marks

-- ---- the board with the new constraint in the place of the old one

pub record RenewAsked (con : Clause) (marks : List ℕ) (vs : Values) (keys hot : List ℕ) : Type 0 where
  pub vars_fit : length vs ≤ max_vars
  pub up_to : ClauseUpTo (length vs) con
  pub room : 2 * length vs ≤ length marks
  pub some : 1 ≤ length keys
  pub hot_right : HotBlocks keys hot

-- whatever the formula, the old constraint and the trail
pub record Renewed (con : Clause) (marks : List ℕ) (vs : Values) (keys hot marks2 keys2 hot2 : List ℕ) : Type 0 where
  pub shows : (F : List Clause) (old : Clause) (lists holders trail : List ℕ) → Holders (length vs) F lists holders
      → Shows (F ++ (old ∷ [])) lists holders marks vs keys hot trail → Shows (F ++ (con ∷ [])) lists holders marks2 vs keys2 hot2 trail
