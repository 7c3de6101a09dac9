-- `after::after_none` meets its contract: what forcing and the row leave. Assumes nothing.
use native.Mathlib.Omega.{arith}
use Rattle.rules.specs.Run.{is_open}
use Rattle.rules.proofs.ListLaws.{count_le}
use Rattle.calls.proofs.after.after_none.Goals as goal

pub overflow_add-result-2 : goal.overflow_add-result-2
overflow_add-result-2 c =
    omega (
      arith,
      count_le is_open c.args.status.now,
      c.requires.tally.candidates_are,
      c.requires.tally.vars_fit,
      c.requires.tally.forced_fit,
      c.requires.chunk_most,
    )
