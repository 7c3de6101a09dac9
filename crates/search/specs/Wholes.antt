-- A whole call: what it requires beside what its search does, and the board in the room that it goes over. Assumes nothing.
use Rattle.std.specs.Prelude.{◌≡◌, List, ℕ, ◌≤◌, ◌<◌, ℤ, get_or, length}
use Rattle.rules.specs.Meaning.{Clause, Values}
use Rattle.rules.specs.Closing.{closing}
use Rattle.rules.specs.Rounds.{rounds}
use Rattle.board.specs.declared.close.Closing.{Closing}
use Rattle.board.specs.Closings.{closed_of, rounds_of}
use Rattle.search.specs.declared.meter.Meter.{Meter}
use Rattle.search.specs.declared.call.CallEnd.{CallEnd}
use Rattle.search.specs.Calls.{CallOver, Calls}
use Rattle.search.specs.Rooms.{BoardKept}

-- a call's formula and constraint, and values to start from: each byte is unset, false or true
pub record CallFrom (vs : Values) (es : List ℤ) (starts : List ℕ) (con : Clause) (total : ℕ) : Type 0 where
  pub call : CallOver (length vs) es starts con total
  pub small : (i : ℕ) → i < length vs → get_or vs i 0 ≤ 2

-- and the board of its list in the room, whatever it shows
pub record CallIn (es : List ℤ) (starts : List ℕ) (con : Clause) (lists holders marks : List ℕ) (shown : Values) (keys hot trail : List ℕ)
    (total : ℕ) (vs : Values) : Type 0 where
  pub from : CallFrom vs es starts con total
  pub kept : BoardKept (length vs) es lists holders marks shown keys hot trail

-- what the call ends with; and the board shows the values behind it
pub record CalledIn (es : List ℤ) (con : Clause) (total : ℕ) (vs : Values) (m : Meter) (r : CallEnd) (lists holders marks : List ℕ)
    (shown : Values) (keys hot trail : List ℕ) (after : Values) : Type 0 where
  pub calls : Calls es con total vs m r after
  pub shown_are : shown ≡ after
  pub kept : BoardKept (length vs) es lists holders marks shown keys hot trail

-- ---- a closing

-- closing under the clauses F, from vs, ended with r and left the values `after`
pub record ClosesBy (F : List Clause) (vs : Values) (r : Closing) (after : Values) : Type 0 where
  pub end_is : closing F vs ≡ closed_of r after
  pub rounds_are : rounds F vs ≡ rounds_of r
