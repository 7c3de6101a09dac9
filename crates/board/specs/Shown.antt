-- Values that the board is to show: variables that have one and none on the board are set. Assumes nothing.
use Rattle.std.specs.Prelude.{◌≡◌, ◌≢◌, List, ℕ, ◌≤◌, ◌<◌, get_or, length, set}
use Rattle.rules.specs.Meaning.{Clause, Values, value_at}
use Rattle.board.specs.Boards.{Shows}
use Rattle.board.specs.Trails.{Leads}

-- what is set on the board has its value
pub record Agrees (wanted vs : Values) : Type 0 where
  pub agrees : (i : ℕ) → value_at vs i ≢ 0 → value_at wanted i ≡ value_at vs i

-- ---- one variable

pub record OneAsked (lists holders marks : List ℕ) (vs : Values) (keys hot trail : List ℕ) (i byte : ℕ) : Type 0 where
  pub F : List Clause
  pub shows : Shows F lists holders marks vs keys hot trail
  pub within : i < length vs
  pub small : byte ≤ 2
  pub agrees : value_at vs i ≢ 0 → byte ≡ value_at vs i

pub record OneShown (lists holders marks : List ℕ) (vs : Values) (keys hot trail : List ℕ) (i byte : ℕ) (vs2 : Values) (keys2 hot2 trail2 : List ℕ)
    : Type 0 where
  pub values_are : vs2 ≡ set vs i byte
  pub shows : (F : List Clause) → Shows F lists holders marks vs keys hot trail → Shows F lists holders marks vs2 keys2 hot2 trail2
  pub leads : Leads trail vs trail2 vs2

-- ---- all of them

pub record ShowAsked (wanted : Values) (lists holders marks : List ℕ) (vs : Values) (keys hot trail : List ℕ) : Type 0 where
  pub F : List Clause
  pub shows : Shows F lists holders marks vs keys hot trail
  pub len : length vs ≡ length wanted
  pub small : (i : ℕ) → i < length wanted → get_or wanted i 0 ≤ 2
  pub agrees : Agrees wanted vs

pub record Shown (wanted : Values) (lists holders marks : List ℕ) (vs : Values) (keys hot trail : List ℕ) (vs2 : Values) (keys2 hot2 trail2 : List ℕ)
    : Type 0 where
  pub values_are : vs2 ≡ wanted
  pub shows : (F : List Clause) → Shows F lists holders marks vs keys hot trail → Shows F lists holders marks vs2 keys2 hot2 trail2
  pub leads : Leads trail vs trail2 vs2
