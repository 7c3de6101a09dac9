-- The first board: no variable has a value, and every key is counted by who holds which literal. Assumes nothing.
use Rattle.std.specs.Prelude.{◌≡◌, List, map, ℕ, ◌/◌, ◌<◌, get_or, length, replicate}
use Rattle.rules.specs.Meaning.{Clause, Values}
use Rattle.board.specs.Keys.{key_of}
use Rattle.board.specs.Blocks.{HotBlocks}
use Rattle.board.specs.Holders.{Indexed}
use Rattle.board.specs.Boards.{Small, Shows}

-- no block counts a clause yet, and there is one for each of the first `count` clauses
pub record Blocks (count : ℕ) (hot : List ℕ) : Type 0 where
  pub small : count < 65535
  pub room : (i : ℕ) → i < count → i / 32 < length hot
  pub blank : (b : ℕ) → get_or hot b 0 ≡ 0

-- the lists and marks are those of the clauses F, and there is a key for each
pub record Countable (n : ℕ) (F : List Clause) (lists holders marks keys : List ℕ) : Type 0 where
  pub small : Small n F
  pub index : Indexed n F lists holders marks
  pub as_many : length keys ≡ length F

pub record CountAsked (n : ℕ) (lists holders marks keys hot : List ℕ) : Type 0 where
  pub F : List Clause
  pub can : Countable n F lists holders marks keys
  pub zeros : keys ≡ replicate (length keys) 0
  pub hot_right : HotBlocks keys hot

-- the keys where no variable has a value
pub record Counted (n : ℕ) (lists holders marks before keys hot : List ℕ) : Type 0 where
  pub keys_are : (F : List Clause) → Countable n F lists holders marks before → keys ≡ map (key_of (replicate n 0)) F
  pub hot_right : HotBlocks keys hot

pub record FirstAsked (lists holders marks : List ℕ) (vs : Values) (keys hot trail : List ℕ) : Type 0 where
  pub F : List Clause
  pub can : Countable (length vs) F lists holders marks keys
  pub blocks : Blocks (length keys) hot
  pub room : length vs < length trail

pub record FirstDone (lists holders marks : List ℕ) (vs : Values) (keys : List ℕ) (vs2 : Values) (keys2 hot2 trail2 : List ℕ) : Type 0 where
  pub values_are : vs2 ≡ replicate (length vs) 0
  pub shows : (F : List Clause) → Countable (length vs) F lists holders marks keys → Shows F lists holders marks vs2 keys2 hot2 trail2
