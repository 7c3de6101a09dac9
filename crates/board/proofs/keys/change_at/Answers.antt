-- `board::keys::change_at` meets its contract: the list of the literal, and then the constraint. Assumes nothing.
use mathlib.Core.List.{[]}
use Prim.Native.Nat.{◌-◌}
use native.Mathlib.Omega.{arith}
use lib.ListN.{length}
use borrow.Author.Tests.{eq-eqb}
use Rattle.board.proofs.HolderLaws.{Turn, asked_list, marked_turn, changed_marked}
use Rattle.board.proofs.keys.change_at.Goals as goal

pub change_all-requires : goal.change_all-requires
change_all-requires c =
    asked_list c.requires

pub overflow_add-key : goal.overflow_add-key
overflow_add-key c =
    let here : let keys = c.change_all.new.keys in
    Turn c.args.add c.args.less (length keys - 1) [] keys =
    marked_turn c.requires c.change_all.ensures
    (eq-eqb _ _ c.if-index-k-eq1.true) in
    omega (arith, here.now_can.fits)

pub overflow_sub-key : goal.overflow_sub-key
overflow_sub-key c =
    let here : let keys = c.change_all.new.keys in
    Turn c.args.add c.args.less (length keys - 1) [] keys =
    marked_turn c.requires c.change_all.ensures
    (eq-eqb _ _ c.if-index-k-eq1.true) in
    omega (arith, here.now_can.enough)

pub returns-then-index-k-eq1 : goal.returns-then-index-k-eq1
returns-then-index-k-eq1 c =
    changed_marked c.requires
    c.change_all.ensures (eq-eqb _ _ c.if-index-k-eq1.true) c.put_key.ensures.0
    c.put_key.ensures.1
