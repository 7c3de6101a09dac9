-- `search::room::begin_in` meets its contract: what is in use is cut off, there is room for as many entries, clauses and variables as there may
-- be, and what was cut off comes back in front of the rest. Assumes nothing.
use mathlib.Core.Path.{◌≡◌, refl, sym}
use native.Mathlib.Omega.{arith}
use Prim.Native.Nat.{◌≤◌}
use borrow.Author.Rules.{rules}
use lib.ListN.{length}
use lib.Seq.{length-take-le}
use Rattle.formula.proofs.ClauseLaws.{length_starts}
use Rattle.board.proofs.ConstraintLaws.{blank_at}
use Rattle.search.proofs.WholeLaws.{begin_room}
use Rattle.search.proofs.RoomLaws.{in_use, begun_kept, few, many}
use Rattle.search.proofs.room.begin_in.Goals as goal

pub slice_bounds-begin-end-6 : goal.slice_bounds-begin-end-6
slice_bounds-begin-end-6 c =
    many c.requires.formula

pub overflow_sub-count : goal.overflow_sub-count
overflow_sub-count c =
    omega (arith, length_starts c.requires.formula)

pub begin-requires : goal.begin-requires
begin-requires c =
    let a = c.args in
    let values_room : length a.values.now ≡ 256 = search rules in
    let keys_room : length a.keys.now ≡ 1281 = search rules in
    begin_room c.requires.formula refl (blank_at 512) refl refl (search rules) (search rules) (search rules)
    (sym (length-take-le a.vars a.values.now (omega (arith, few c.requires.formula, values_room))))
    (sym (length-take-le (length a.starts.now) a.keys.now (omega (arith, many c.requires.formula, keys_room))))
    (search rules) c.requires.cold (search rules)

pub returns : goal.returns
returns c =
    let a = c.args in
    let values_room : length a.values.now ≡ 256 = search rules in
    let keys_room : length a.keys.now ≡ 1281 = search rules in
    let in_values : a.vars ≤ length a.values.now = omega (arith, few c.requires.formula, values_room) in
    let in_keys : length a.starts.now ≤ length a.keys.now = omega (arith, many c.requires.formula, keys_room) in
    let done = rw (length-take-le a.vars a.values.now in_values) at c.begin.ensures.done in
    rw (
      in_use a.vars a.values.now c.begin.new.values in_values c.begin.auto.values,
      in_use (length a.starts.now) a.keys.now c.begin.new.keys in_keys c.begin.auto.keys,
    ) (record { begun = done; kept = begun_kept done })
