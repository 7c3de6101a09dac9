-- `formula::unset::first_unset` meets its contract. The invariant of its loop: no literal passed is unset. Assumes nothing.
use mathlib.Core.Path.{◌≡◌}
use mathlib.Core.Bool.{false}
use lib.ListN.{take}
use Rattle.rules.specs.Lists.{any}
use Rattle.rules.specs.Meaning.{is_unset}
use Rattle.formula.proofs.unset.first_unset.Given as goal

abbrev pub invariant-loop-entry : goal.invariant-loop-entry
invariant-loop-entry l = any (is_unset l.values) (take l.entry-index l.clause) ≡ false
