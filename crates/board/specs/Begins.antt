-- What a run begins with: who holds a literal, no constraint, no value, and every key counted. Assumes nothing.
use Rattle.std.specs.Prelude.{◌≡◌, List, [], ℕ, suc, ◌*◌, ◌≤◌, ◌<◌, ℤ, length, replicate}
use Rattle.rules.specs.Meaning.{Values, clauses}
use Rattle.formula.specs.Starts.{clauses_with}
use Rattle.board.specs.Holders.{Holders}
use Rattle.board.specs.Boards.{Shows}
use Rattle.board.specs.Firsts.{Blocks}
use Rattle.board.specs.Chains.{IndexAsked}

-- room for the index, a key for each clause and one for the constraint, and room for the rest
pub record BeginAsked (count : ℕ) (es : List ℤ) (heads nexts owners lists holders marks : List ℕ) (vs : Values) (keys hot trail : List ℕ) : Type 0 where
  pub index : IndexAsked (length vs) count es heads nexts owners lists holders
  pub mark_room : 2 * length vs ≤ length marks
  pub as_many : length keys ≡ suc (length (clauses es))
  pub blocks : Blocks (length keys) hot
  pub room : length vs < length trail

pub record Begun (es : List ℤ) (vars : ℕ) (lists holders marks : List ℕ) (vs : Values) (keys hot trail : List ℕ) : Type 0 where
  pub values_are : vs ≡ replicate vars 0
  pub index : Holders vars (clauses es) lists holders
  pub shows : Shows (clauses_with es []) lists holders marks vs keys hot trail
