-- `after::after_model` meets its contract: what compare, flip and the row leave. Assumes nothing.
use native.Mathlib.Omega.{arith}
use Rattle.rules.specs.Run.{is_open}
use Rattle.rules.proofs.ListLaws.{count_le}
use Rattle.calls.proofs.after.after_model.Goals as goal

pub overflow_add-result-2 : goal.overflow_add-result-2
overflow_add-result-2 c =
    omega (arith, c.compare-by_compare.ensures.counted, count_le is_open c.args.status.now, c.requires.tally.vars_fit, c.requires.tally.free_fit)

pub overflow_add-result-3 : goal.overflow_add-result-3
overflow_add-result-3 c =
    omega (
      arith,
      c.compare-by_compare.ensures.counted,
      c.flip-by_flip.ensures.drops.counted,
      count_le is_open c.args.status.now,
      c.requires.tally.vars_fit,
      c.requires.tally.free_fit,
    )
