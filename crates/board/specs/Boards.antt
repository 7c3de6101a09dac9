-- The board: the keys of all clauses under the values, the hot blocks, and the trail of what was set. Assumes nothing.
use Rattle.std.specs.Prelude.{◌≡◌, true, List, map, ℕ, ◌+◌, ◌-◌, ◌≤◌, ◌<◌, ℤ, get_or, length, set}
use Rattle.rules.specs.Lists.{In}
use Rattle.rules.specs.Numbers.{max_vars}
use Rattle.rules.specs.Meaning.{Clause, Values, LitUpTo, index_of, assign, is_true, is_unset}
use Rattle.rules.specs.Closing.{unsets}
use Rattle.formula.specs.Clauses.{ClauseUpTo}
use Rattle.board.specs.Keys.{key_of}
use Rattle.board.specs.Holders.{code_of, lit_of, Indexed}
use Rattle.board.specs.Blocks.{HotBlocks}
use Rattle.board.specs.declared.parts.Board.{Board}

-- clauses over the variables 1 to n
pub record Small (n : ℕ) (F : List Clause) : Type 0 where
  pub vars_fit : n ≤ max_vars
  pub up_to : (cl : Clause) → In cl F → ClauseUpTo n cl

-- ---- the trail: in a buffer its length, and then the numbers of the literals that were made true, in order

abbrev pub trail_len : List ℕ → ℕ
trail_len trail = get_or trail 0 0

abbrev pub lit_at : List ℕ → ℕ → ℤ
lit_at trail i = lit_of (get_or trail i 0)

abbrev pub last_of : List ℕ → ℤ
last_of trail = lit_at trail (trail_len trail)

-- with one more
abbrev pub pushed : List ℕ → ℕ → List ℕ
pushed trail k = set (set trail (trail_len trail + 1) k) 0 (trail_len trail + 1)

-- with one less
abbrev pub popped : List ℕ → List ℕ
popped trail = set trail 0 (trail_len trail - 1)

-- ---- the board shows the values: the lists and marks are those of the clauses F, the keys those that a fresh count gives, the hot
-- blocks are right, and what is set is on the trail

pub record Shows (F : List Clause) (lists holders marks : List ℕ) (vs : Values) (keys hot trail : List ℕ) : Type 0 where
  pub small : Small (length vs) F
  pub index : Indexed (length vs) F lists holders marks
  pub keys_are : keys ≡ map (key_of vs) F
  pub hot_are : HotBlocks keys hot
  pub counted : trail_len trail + unsets vs ≡ length vs
  pub room : length vs < length trail

-- ---- the parts of a board that is lent keep their lengths, and stay the same references, so that who made the board of them learns what
-- became of them

pub record SameRoom (before after : Board) : Type 0 where
  pub values : length after.values.now ≡ length before.values.now
  pub keys : length after.keys.now ≡ length before.keys.now
  pub hot : length after.hot.now ≡ length before.hot.now
  pub trail : length after.trail.now ≡ length before.trail.now
  pub values_stay : after.values.ghost_name ≡ before.values.ghost_name
  pub keys_stay : after.keys.ghost_name ≡ before.keys.ghost_name
  pub hot_stay : after.hot.ghost_name ≡ before.hot.ghost_name
  pub trail_stay : after.trail.ghost_name ≡ before.trail.ghost_name

-- ---- setting a literal

-- one that is unset can be set
pub record Settable (F : List Clause) (lists holders marks : List ℕ) (vs : Values) (keys hot trail : List ℕ) (l : ℤ) : Type 0 where
  pub shows : Shows F lists holders marks vs keys hot trail
  pub literal : LitUpTo (length vs) l
  pub unset : is_unset vs l ≡ true

-- under some clauses
pub record SetAsked (lists holders marks : List ℕ) (vs : Values) (keys hot trail : List ℕ) (l : ℤ) : Type 0 where
  pub F : List Clause
  pub can : Settable F lists holders marks vs keys hot trail l

-- whatever the clauses, the board shows the values with l made true, and l is on the trail
pub record SetDone (lists holders marks : List ℕ) (vs : Values) (keys hot trail : List ℕ) (l : ℤ) (vs2 : Values) (keys2 hot2 trail2 : List ℕ) : Type 0 where
  pub values_are : vs2 ≡ assign vs l
  pub trail_is : trail2 ≡ pushed trail (code_of l)
  pub shows : (F : List Clause) → Shows F lists holders marks vs keys hot trail → Shows F lists holders marks vs2 keys2 hot2 trail2

-- ---- unsetting the last one

abbrev pub unassign : Values → ℤ → Values
unassign vs l = set vs (index_of l) 0

pub record Unsettable (F : List Clause) (lists holders marks : List ℕ) (vs : Values) (keys hot trail : List ℕ) : Type 0 where
  pub shows : Shows F lists holders marks vs keys hot trail
  pub some : 1 ≤ trail_len trail
  pub literal : LitUpTo (length vs) (last_of trail)
  pub true_here : is_true vs (last_of trail) ≡ true

pub record UnsetAsked (lists holders marks : List ℕ) (vs : Values) (keys hot trail : List ℕ) : Type 0 where
  pub F : List Clause
  pub can : Unsettable F lists holders marks vs keys hot trail

pub record UnsetDone (lists holders marks : List ℕ) (vs : Values) (keys hot trail : List ℕ) (vs2 : Values) (keys2 hot2 trail2 : List ℕ) : Type 0 where
  pub values_are : vs2 ≡ unassign vs (last_of trail)
  pub trail_is : trail2 ≡ popped trail
  pub shows : (F : List Clause) → Shows F lists holders marks vs keys hot trail → Shows F lists holders marks vs2 keys2 hot2 trail2
