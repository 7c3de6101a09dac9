-- `is_ended` meets its contract: the last entry is looked at, if there is one. Assumes nothing.
use mathlib.Core.Path.{◌≡◌, ◌∙◌, ap}
use native.Mathlib.Omega.{arith}
use Prim.Native.Nat.{◌-◌}
use lib.IntN.{pos}
use lib.ListN.{length, get_or}
use Rattle.rules.specs.Lists.{is_zero}
use Rattle.refusals.proofs.RefuseLaws.{is_zero_bits, is_ended_read}
use Rattle.refusals.proofs.is_ended.Goals as goal

pub returns : goal.returns
returns c =
    let es = c.args.entries.now in
    let at : c.in-Some.field-0.now ≡ get_or es (length es - 1) (pos 0) = c.in-Some.ensures.item.3.1 (pos 0) in
    is_zero_bits c.in-Some.field-0.now (omega arith) ∙ (ap is_zero at ∙ is_ended_read es (omega (arith, c.in-Some.ensures.item.3.0)))
