-- `reader::header::trimmed_len` meets its contract. The invariant of its loop: the first n bytes without the blanks behind are
-- the line without them. Assumes nothing.
use mathlib.Core.Path.{◌≡◌}
use lib.ListN.{take}
use Rattle.texts.specs.Text.{trimmed}
use Rattle.reader.proofs.header.trimmed_len.Given as goal

abbrev pub invariant-loop-n : goal.invariant-loop-n
invariant-loop-n l = trimmed (take l.n l.line) ≡ trimmed l.line
