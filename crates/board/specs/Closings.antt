-- A round and a closing over the board, and what they leave. Assumes nothing.
use Rattle.std.specs.Prelude.{◌≡◌, List, ℕ, suc, ◌≤◌, ℤ, length, Option, None, Some}
use Rattle.rules.specs.Meaning.{Clause, Values, clauses}
use Rattle.rules.specs.Closing.{Round, under_way, at_false, round, Closed, clash, closed, closing}
use Rattle.rules.specs.Rounds.{rounds}
use Rattle.formula.specs.Starts.{starts_of, clauses_with, call_clauses}
use Rattle.board.specs.declared.close.Closing.{Closing}
use Rattle.board.specs.declared.close.Closing.TheVariants.{Clash, Closed as AllClosed}
use Rattle.board.specs.Boards.{Shows}
use Rattle.board.specs.Trails.{Leads}

-- a list with where its clauses start, a board of it with the constraint behind, and no more clauses in a call than these
pub record BoardOver (es : List ℤ) (starts : List ℕ) (con : Clause) (lists holders marks : List ℕ) (vs : Values) (keys hot trail : List ℕ)
    (total : ℕ) : Type 0 where
  pub starts_are : starts ≡ starts_of es
  pub total_most : total ≤ suc (length (clauses es))
  pub shows : Shows (clauses_with es con) lists holders marks vs keys hot trail

-- a round's end with the values that it leaves
abbrev pub round_of : Option ℕ → Values → Round
round_of None vs = at_false
round_of (Some n) vs = under_way vs n

-- the round of the definition; the board shows the values that it leaves, and what it set is on the trail
pub record RoundDone (es : List ℤ) (con : Clause) (lists holders marks : List ℕ) (before : Values) (trail-before : List ℕ) (total : ℕ) (r : Option ℕ)
    (vs : Values) (keys hot trail : List ℕ) : Type 0 where
  pub round_is : round (call_clauses es con total) (under_way before 0) ≡ round_of r vs
  pub shows : Shows (clauses_with es con) lists holders marks vs keys hot trail
  pub leads : Leads trail-before before trail vs

-- a closing's end with the values that it leaves, which after a clash do not count; and its rounds
abbrev pub closed_of : Closing → Values → Closed
closed_of (Clash n) vs = clash
closed_of (AllClosed n) vs = closed vs

abbrev pub rounds_of : Closing → ℕ
rounds_of (Clash n) = n
rounds_of (AllClosed n) = n

pub record CloseDone (es : List ℤ) (con : Clause) (lists holders marks : List ℕ) (before : Values) (trail-before : List ℕ) (total : ℕ) (r : Closing)
    (vs : Values) (keys hot trail : List ℕ) : Type 0 where
  pub end_is : closing (call_clauses es con total) before ≡ closed_of r vs
  pub rounds_are : rounds (call_clauses es con total) before ≡ rounds_of r
  pub shows : Shows (clauses_with es con) lists holders marks vs keys hot trail
  pub leads : Leads trail-before before trail vs
