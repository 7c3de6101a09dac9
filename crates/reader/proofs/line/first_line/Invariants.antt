-- `reader::line::first_line` meets its contract. The invariant of its loop: from the line at `at` on the first line that is not
-- skipped is that of the text. The measure is what is left of the text. Assumes nothing.
use mathlib.Core.Path.{◌≡◌}
use Prim.Native.Nat.{◌+◌, ◌≤◌, ◌-◌}
use lib.ListN.{length}
use Rattle.texts.specs.Text.{lines_of}
use Rattle.reader.specs.Lines.{first_line}
use Rattle.reader.proofs.LineLaws.{lines_from}
use Rattle.reader.proofs.line.first_line.Given as goal

abbrev pub invariant-loop-at : goal.invariant-loop-at
invariant-loop-at l = (l.at ≤ length l.text + 1) × (first_line (lines_from l.text l.at) ≡ first_line (lines_of l.text))

abbrev pub decreases-loop-at : goal.decreases-loop-at
decreases-loop-at l = length l.text + 1 - l.at
