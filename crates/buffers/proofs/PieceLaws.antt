-- Pieces put one behind the other, one for each element of a list (`pieces` of rules/specs/Lists).
--
--   pieces_more       the piece of one element, then those of the others
--   Piecing, piecing_start, piecing_room, piecing_step, piecing_done     the loop that puts them
--
-- Assumes nothing.
use mathlib.Core.Path.{◌≡◌, refl, sym, ◌∙◌, ap}
use mathlib.Core.List.{List, ◌++◌}
use Prim.Native.Nat.{ℕ, suc, ◌+◌, ◌≤◌, ◌<◌}
use native.Mathlib.Omega.{arith}
use native.Mathlib.Numerals.{add-one}
use lib.ListN.{length, get_or, drop, drop_of_length-le}
use lib.Seq.{drop-cons}
use Rattle.rules.specs.Lists.{pieces}
use Rattle.buffers.specs.Put.{Room, Put}
use Rattle.buffers.proofs.PutLaws.{length_put, room_first, room_then, room_same, put_then, put_same, put_none}

module _ {A : Type 0} where
  -- the pieces from the element at index i on, which has number i + 1
  abbrev pieces_from : (ℕ → A → List ℕ) → ℕ → List A → List ℕ
  pieces_from f i xs = pieces f (suc i) (drop i xs)

  pub pieces_more : (f : ℕ → A → List ℕ) (xs : List A) (i : ℕ) (d : A) → i < length xs
      → pieces_from f i xs ≡ f (i + 1) (get_or xs i d) ++ pieces_from f (i + 1) xs
  pieces_more f xs i d h =
      ap (pieces f (suc i)) (drop-cons xs i d h) ∙
      ap (λ (k : ℕ). f k (get_or xs i d) ++ pieces f (suc k) (drop k xs)) (sym (add-one i))

-- the first i pieces are put, and with the others behind them all are
pub record Piecing {A : Type 0} (f : ℕ → A → List ℕ) (xs : List A) (at : ℕ) (before : List ℕ) (i next : ℕ) (out : List ℕ) : Type 0 where
  pub within : i ≤ length xs
  pub len : length out ≡ length before
  pub room : Room next (pieces_from f i xs) out
  pub rest : (last : ℕ) (after : List ℕ) → Put next (pieces_from f i xs) out last after → Put at (pieces f 1 xs) before last after

module _ {A : Type 0} {f : ℕ → A → List ℕ} {xs : List A} {at : ℕ} {before : List ℕ} where
  pub piecing_start : Room at (pieces f 1 xs) before → Piecing f xs at before 0 at before
  piecing_start w = record { within = omega arith; len = refl; room = w; rest = λ last after p. p }

  module _ {i next : ℕ} {out : List ℕ} (d : A) (w : Piecing f xs at before i next out) (h : i < length xs) where
    both_room : Room next (f (i + 1) (get_or xs i d) ++ pieces_from f (i + 1) xs) out
    both_room = room_same (pieces_more f xs i d h) w.room

    pub piecing_room : Room next (f (i + 1) (get_or xs i d)) out
    piecing_room = room_first (f (i + 1) (get_or xs i d)) (pieces_from f (i + 1) xs) both_room

    pub piecing_step : {next' : ℕ} {out' : List ℕ} → Put next (f (i + 1) (get_or xs i d)) out next' out' → Piecing f xs at before (i + 1) next' out'
    piecing_step p =
        record {
          within = omega arith;
          len = length_put p ∙ w.len;
          room = room_then (f (i + 1) (get_or xs i d)) (pieces_from f (i + 1) xs) both_room p;
          rest = λ last after q. w.rest last after (put_same (sym (pieces_more f xs i d h)) (put_then p q));
        }

  pub piecing_done : {i next : ℕ} {out : List ℕ} → Piecing f xs at before i next out → length xs ≤ i → Put at (pieces f 1 xs) before next out
  piecing_done {i} {next} {out} w h =
      w.rest next out (put_same (sym (ap (pieces f (suc i)) (drop_of_length-le xs h))) (put_none next out))
