-- The room of a board: what is in use of an array is cut off, lent, and comes back in front of the rest.
--
--   few, many                   what is in use is within the arrays
--   in_use                      the part that came back
--   begun_kept                  a board that is begun
--   rooms_self, rooms_then      a room that is lent: where nothing is done, and one function after another
--
-- Assumes nothing.
use mathlib.Core.Path.{◌≡◌, refl, ◌∙◌, ap}
use mathlib.Core.List.{List, [], ◌++◌}
use Prim.Native.Nat.{ℕ, zero, suc, ◌≤◌}
use native.Mathlib.Omega.{arith}
use lib.IntN.{ℤ}
use lib.ListN.{length, take, drop, replicate, length-replicate}
use lib.Seq.{take_at, length-take-le}
use Rattle.rules.specs.Meaning.{Values}
use Rattle.rules.specs.Closing.{unsets}
use Rattle.formula.specs.Formula.{Formula}
use Rattle.formula.proofs.ClauseLaws.{length_starts}
use Rattle.board.specs.Boards.{trail_len}
use Rattle.board.specs.Trails.Way.{start}
use Rattle.board.specs.Begins.{Begun}
use Rattle.board.proofs.SameLaws.{same_self, same_then}
use Rattle.search.specs.declared.room.Room.{Room}
use Rattle.search.specs.Rooms.{BoardKept, SameRooms}

pub few : {vars : ℕ} {es : List ℤ} {starts : List ℕ} → Formula vars es starts → vars ≤ 256
few f = f.vars_fit

pub many : {vars : ℕ} {es : List ℤ} {starts : List ℕ} → Formula vars es starts → length starts ≤ 1281
many f = omega (arith, length_starts f, f.clauses_most)

pub in_use : (n : ℕ) (xs ys : List ℕ) → n ≤ length xs → length ys ≡ length (take n xs) → take n (ys ++ drop n xs) ≡ ys
in_use n xs ys h k = take_at ys (drop n xs) n (k ∙ length-take-le n xs h)

-- ---- the first board

unsets-blank : (n : ℕ) → unsets (replicate n 0) ≡ n
unsets-blank zero = refl
unsets-blank (suc n) = ap suc (unsets-blank n)

-- it shows no value, and its trail is empty
pub begun_kept : {vars : ℕ} {es : List ℤ} {lists holders marks : List ℕ} {values : Values} {keys hot trail : List ℕ}
    → Begun es vars lists holders marks values keys hot trail → BoardKept vars es lists holders marks values keys hot trail
begun_kept {vars} {trail = trail} b =
    record {
      old = [];
      index = b.index;
      shows = b.shows;
      trail_is =
          start {len = trail_len trail}
          (omega (arith, rw b.values_are at b.shows.counted, unsets-blank vars, length-replicate {A = ℕ} vars 0)) b.values_are;
    }

-- ---- a room that is lent

pub rooms_self : {r : Room} → SameRooms r r
rooms_self = record { lists = refl; holders = refl; marks = refl; marks_stay = refl; board = same_self }

pub rooms_then : {r s t : Room} → SameRooms r s → SameRooms s t → SameRooms r t
rooms_then p q =
    record {
      lists = q.lists ∙ p.lists;
      holders = q.holders ∙ p.holders;
      marks = q.marks ∙ p.marks;
      marks_stay = q.marks_stay ∙ p.marks_stay;
      board = same_then p.board q.board;
    }
