-- `groups::count::pairs_of` meets its contract. Assumes nothing.
use native.Mathlib.Omega.{arith}
use Rattle.groups.proofs.CountLaws.{pair_count_le}
use Rattle.groups.proofs.count.pairs_of.Goals as goal

pub overflow_add-pairs : goal.overflow_add-pairs
overflow_add-pairs c =
    let l = c.loop-left in
    record { fits = omega (arith, l.invariant, c.loop-left-test.true, c.requires, pair_count_le l.left (omega (arith, c.loop-left-test.true, c.requires))) }
