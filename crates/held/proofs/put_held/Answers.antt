-- `put_held` meets its contract. Assumes nothing.
use Prim.Native.Nat.{◌+◌, ◌<◌}
use native.Mathlib.Omega.{arith}
use lib.IntN.{pos}
use lib.ListN.{length, get_or, length-set}
use mir.Syntax.{w32}
use mir.Val.{to_z, of_z}
use borrow.Author.Rules.{rules}
use Rattle.held.proofs.StoredLaws.{holding_room, holding_done}
use Rattle.held.proofs.put_held.Goals as goal

pub offset_bounds-out-next : goal.offset_bounds-out-next
offset_bounds-out-next c =
    let room : c.loop-literal.next + 1 < length c.loop-literal.out = holding_room c.loop-literal.invariant c.requires c.loop-literal-test.true in
    let r = room in search rules

pub bounds-out-next : goal.bounds-out-next
bounds-out-next c =
    let room : c.loop-literal.next + 1 < length c.loop-literal.out = holding_room c.loop-literal.invariant c.requires c.loop-literal-test.true in
    omega (arith, room)

pub offset_bounds-out-next-in-loop-literal : goal.offset_bounds-out-next-in-loop-literal
offset_bounds-out-next-in-loop-literal c =
    let room : c.loop-literal.next + 1 < length c.loop-literal.out = holding_room c.loop-literal.invariant c.requires c.loop-literal-test.true in
    let r = room in search rules

pub slice_set_of-out : goal.slice_set_of-out
slice_set_of-out c =
    let room : c.loop-literal.next + 1 < length c.loop-literal.out = holding_room c.loop-literal.invariant c.requires c.loop-literal-test.true in
    let l = c.loop-literal in
    omega (arith, room, length-set l.out l.next (to_z w32 (of_z w32 (get_or c.args.held.now l.literal-index (pos 0)))))

pub returns : goal.returns
returns c =
    holding_done c.loop-literal.invariant c.loop-literal-test.false
