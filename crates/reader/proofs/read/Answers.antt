-- `reader::read` meets its contract. The three ways a reading ends: 1, 2, or what the text is judged to. Assumes nothing.
use native.Mathlib.Omega.{arith}
use Rattle.std.proofs.Common.{◌≡◌}
use Rattle.reader.specs.Stores.{reading}
use Rattle.reader.proofs.StoreLaws.{reading_is, read_short, read_long, stores_count, read_done}
use Rattle.reader.proofs.read.Goals as goal

pub returns-then-entries-lt-MAX_ENTRIES : goal.returns-then-entries-lt-MAX_ENTRIES
returns-then-entries-lt-MAX_ENTRIES c =
    read_short c.args.text.now c.args.entries.now c.if-entries-lt-MAX_ENTRIES.true c.refused.result
    c.refused.ensures

pub returns-then-text-gt-MAX_TEXT : goal.returns-then-text-gt-MAX_TEXT
returns-then-text-gt-MAX_TEXT c =
    read_long c.args.text.now c.args.entries.now c.if-entries-lt-MAX_ENTRIES.false (omega (arith, c.if-text-gt-MAX_TEXT.true))
    c.refused-then-text-gt-MAX_TEXT.result
    c.refused-then-text-gt-MAX_TEXT.ensures

pub clear-requires : goal.clear-requires
clear-requires c =
    let is : c.unwrap_or_else-r.result ≡ reading c.read_text.result = reading_is _ _ c.unwrap_or_else-r.ensures in
    let s = rw (← is) at c.read_text.ensures in (
      omega (arith, stores_count c.args.text.now c.args.entries.now c.if-entries-lt-MAX_ENTRIES.false s),
      omega (arith, c.read_text.auto, c.if-entries-lt-MAX_ENTRIES.false),
    )

pub returns : goal.returns
returns c =
    let is : c.unwrap_or_else-r.result ≡ reading c.read_text.result = reading_is _ _ c.unwrap_or_else-r.ensures in
    read_done c.args.text.now c.args.entries.now c.if-entries-lt-MAX_ENTRIES.false (omega (arith, c.if-text-gt-MAX_TEXT.false))
    c.unwrap_or_else-r.result c.read_text.new.entries c.clear.new.entries (rw (← is) at c.read_text.ensures) c.clear.ensures
