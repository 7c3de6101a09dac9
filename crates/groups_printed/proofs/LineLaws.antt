-- The laws of the lines of values.
--
--   lines_more        the lines of one group, then those of the others
--   Lining, lining_start, lining_part, lining_room, lining_step, lining_done     the loop that puts them
--
-- Assumes nothing.
use mathlib.Core.Path.{◌≡◌, refl, sym, ◌∙◌, ap, ap₂}
use mathlib.Core.List.{List, ◌++◌}
use Prim.Native.Nat.{ℕ, suc, ◌+◌, ◌-◌, ◌≤◌, ◌<◌}
use native.Mathlib.Omega.{arith}
use native.Mathlib.Numerals.{add-one}
use lib.ListN.{length, get_or, take, drop, drop_of_length-le}
use lib.Seq.{drop-cons, drop-drop}
use Rattle.rules.specs.Lists.{pieces}
use Rattle.texts.specs.Groups.{vars_in}
use Rattle.texts.specs.GroupsPrinted.{value_line, group_lines}
use Rattle.groups.proofs.ExpandLaws.{sizes-next}
use Rattle.buffers.specs.Put.{Room, Put}
use Rattle.buffers.proofs.PutLaws.{length_put, room_first, room_then, room_same, put_then, put_same, put_none}
use Rattle.groups_printed.specs.Table.{LinesOver}

-- the lines from the group at index i on, which has number i + 1
abbrev lines_from : List ℕ → List ℕ → ℕ → ℕ → List ℕ
lines_from sizes ss i from = group_lines (suc i) (drop i sizes) (drop from ss)

-- those of one group, whose statuses stand from `from` up to `to`
abbrev pub part_lines : List ℕ → ℕ → ℕ → ℕ → List ℕ
part_lines ss i from to = pieces (value_line (i + 1)) 1 (take (to - from) (drop from ss))

pub lines_more : (sizes ss : List ℕ) (i from : ℕ) → i < length sizes
    → lines_from sizes ss i from ≡ part_lines ss i from (from + get_or sizes i 0) ++ lines_from sizes ss (i + 1) (from + get_or sizes i 0)
lines_more sizes ss i from h =
    let n = get_or sizes i 0 in
    let few : n ≡ from + n - from = omega arith in
    ap (λ (ns : List ℕ). group_lines (suc i) ns (drop from ss)) (drop-cons sizes i 0 h) ∙
    rw (add-one i)
    (ap₂ (λ (m : ℕ) (rest : List ℕ). pieces (value_line (suc i)) 1 (take m (drop from ss)) ++ group_lines (suc (suc i)) (drop (suc i) sizes) rest) few
    (drop-drop n from ss))

-- the lines of i groups are put, and with the others behind them all are
pub record Lining (sizes ss : List ℕ) (at : ℕ) (before : List ℕ) (i from next : ℕ) (out : List ℕ) : Type 0 where
  pub within : i ≤ length sizes
  pub len : length out ≡ length before
  pub left : from + vars_in (drop i sizes) ≡ length ss
  pub room : Room next (lines_from sizes ss i from) out
  pub rest : (last : ℕ) (after : List ℕ) → Put next (lines_from sizes ss i from) out last after → Put at (group_lines 1 sizes ss) before last after

module _ {sizes ss : List ℕ} {at : ℕ} {before : List ℕ} where
  pub lining_start : LinesOver at sizes ss before → Lining sizes ss at before 0 0 at before
  lining_start w =
      record { within = omega arith; len = refl; left = omega (arith, w.statuses_are); room = w.room; rest = λ last after p. p }

  module _ {i from next : ℕ} {out : List ℕ} (w : Lining sizes ss at before i from next out) (h : i < length sizes) where
    abbrev to : ℕ
    to = from + get_or sizes i 0

    -- its statuses are among those that are given
    pub lining_part : from + get_or sizes i 0 ≤ length ss
    lining_part = omega (arith, w.left, sizes-next sizes i h)

    both_room : Room next (part_lines ss i from to ++ lines_from sizes ss (i + 1) to) out
    both_room = room_same (lines_more sizes ss i from h) w.room

    pub lining_room : Room next (part_lines ss i from (from + get_or sizes i 0)) out
    lining_room = room_first (part_lines ss i from to) (lines_from sizes ss (i + 1) to) both_room

    pub lining_step : {next' : ℕ} {out' : List ℕ} → Put next (part_lines ss i from (from + get_or sizes i 0)) out next' out'
        → Lining sizes ss at before (i + 1) (from + get_or sizes i 0) next' out'
    lining_step p =
        record {
          within = omega arith;
          len = length_put p ∙ w.len;
          left = omega (arith, w.left, sizes-next sizes i h);
          room = room_then (part_lines ss i from to) (lines_from sizes ss (i + 1) to) both_room p;
          rest = λ last after q. w.rest last after (put_same (sym (lines_more sizes ss i from h)) (put_then p q));
        }

  pub lining_done : {i from next : ℕ} {out : List ℕ} → Lining sizes ss at before i from next out → length sizes ≤ i
      → Put at (group_lines 1 sizes ss) before next out
  lining_done {i} {from} {next} {out} w h =
      w.rest next out
      (put_same (sym (ap (λ (ns : List ℕ). group_lines (suc i) ns (drop from ss)) (drop_of_length-le sizes {i = i} h))) (put_none next out))
