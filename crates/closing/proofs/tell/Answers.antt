-- `tell` meets its contract: after a clash zeros, otherwise the values as they are, with those set counted. Assumes nothing.
use native.Mathlib.Omega.{arith}
use Rattle.rules.specs.Lists.{is_set}
use Rattle.rules.proofs.ListLaws.{count_le}
use Rattle.closing.proofs.tell.Goals as goal

pub overflow_cast-result : goal.overflow_cast-result
overflow_cast-result c =
    omega (arith, c.count_set.ensures, count_le is_set c.args.values.now, c.requires)
