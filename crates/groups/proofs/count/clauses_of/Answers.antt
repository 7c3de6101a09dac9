-- `groups::count::clauses_of` meets its contract. Assumes nothing.
use Prim.Native.Nat.{◌≤◌}
use native.Mathlib.Omega.{arith}
use lib.ListN.{get_or}
use Rattle.texts.specs.Groups.{max_size}
use Rattle.groups.proofs.CountLaws.{counting_step, counting_done, size_small, pair_count_le}
use Rattle.groups.proofs.count.clauses_of.Goals as goal

pub pairs_of-requires : goal.pairs_of-requires
pairs_of-requires c =
    let small : get_or c.args.sizes.now c.loop-size.size-index 0 ≤ max_size = size_small c.requires c.loop-size.size-index c.loop-size-test.true in
    small

pub overflow_add-clauses : goal.overflow_add-clauses
overflow_add-clauses c =
    let small : get_or c.args.sizes.now c.loop-size.size-index 0 ≤ max_size = size_small c.requires c.loop-size.size-index c.loop-size-test.true in
    let n = get_or c.args.sizes.now c.loop-size.size-index 0 in
    let r = small in
    record { fits = omega (arith, r, c.pairs_of.ensures, pair_count_le n r) }

pub overflow_add-clauses-in-loop-size : goal.overflow_add-clauses-in-loop-size
overflow_add-clauses-in-loop-size c =
    let small : get_or c.args.sizes.now c.loop-size.size-index 0 ≤ max_size = size_small c.requires c.loop-size.size-index c.loop-size-test.true in
    let n = get_or c.args.sizes.now c.loop-size.size-index 0 in
    let r = small in
    record { fits = omega (arith, r, c.pairs_of.ensures, pair_count_le n r, c.loop-size.invariant.most, c.requires.few, c.loop-size-test.true) }

pub loop-size-preserved : goal.loop-size-preserved
loop-size-preserved c =
    rw c.pairs_of.ensures (counting_step c.requires c.loop-size.invariant c.loop-size-test.true)

pub returns : goal.returns
returns c =
    counting_done c.loop-size.invariant c.loop-size-test.false
