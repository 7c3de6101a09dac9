-- The board in arrays of fixed sizes, which is begun once a run, and kept. Assumes nothing.
use Rattle.std.specs.Prelude.{◌≡◌, List, ℕ, ℤ, get_or, length, replicate}
use Rattle.rules.specs.Meaning.{Clause, Values, clauses}
use Rattle.formula.specs.Starts.{clauses_with}
use Rattle.formula.specs.Formula.{Formula}
use Rattle.board.specs.Holders.{Holders}
use Rattle.board.specs.Boards.{SameRoom, Shows}
use Rattle.board.specs.Trails.{Trail}
use Rattle.search.specs.declared.room.Room.{Room}

-- ---- the board of a run, and what a call begins with

pub record BeginIn (vars : ℕ) (es : List ℤ) (starts hot : List ℕ) : Type 0 where
  pub formula : Formula vars es starts
  pub cold : (b : ℕ) → get_or hot b 0 ≡ 0

-- ---- between the calls of a run

-- a board of the list, under some constraint, and the trail of all that it shows
pub record BoardKept (vars : ℕ) (es : List ℤ) (lists holders marks : List ℕ) (values : Values) (keys hot trail : List ℕ) : Type 0 where
  pub old : Clause
  pub index : Holders vars (clauses es) lists holders
  pub shows : Shows (clauses_with es old) lists holders marks values keys hot trail
  pub trail_is : Trail (replicate vars 0) trail 0 values

-- a room that is lent: who holds a literal stays as it is, the marks and the board keep their lengths, and stay the same references
pub record SameRooms (before after : Room) : Type 0 where
  pub lists : after.lists.now ≡ before.lists.now
  pub holders : after.holders.now ≡ before.holders.now
  pub marks : length after.marks.now ≡ length before.marks.now
  pub marks_stay : after.marks.ghost_name ≡ before.marks.ghost_name
  pub board : SameRoom before.board after.board
