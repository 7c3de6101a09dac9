-- `groups::read_groups` meets its contract. The ways a reading ends: 1, 2, or what the text is judged to. Assumes nothing.
use native.Mathlib.Omega.{arith}
use Rattle.groups.proofs.ReadLaws.{read_short_entries, read_short_sizes, read_long, read_done, stores_entries, stores_groups}
use Rattle.groups.proofs.read_groups.Goals as goal

pub returns-then-entries-lt-MAX_ENTRIES : goal.returns-then-entries-lt-MAX_ENTRIES
returns-then-entries-lt-MAX_ENTRIES c =
    let a = c.args in
    read_short_entries a.text.now a.entries.now a.sizes.now c.if-entries-lt-MAX_ENTRIES.true c.refused.result c.refused.ensures

pub returns-then-sizes-lt-MAX_GROUPS : goal.returns-then-sizes-lt-MAX_GROUPS
returns-then-sizes-lt-MAX_GROUPS c =
    let a = c.args in
    read_short_sizes a.text.now a.entries.now a.sizes.now (omega (arith, c.if-entries-lt-MAX_ENTRIES.false)) c.if-sizes-lt-MAX_GROUPS.true
    c.refused-then-sizes-lt-MAX_GROUPS.result
    c.refused-then-sizes-lt-MAX_GROUPS.ensures

pub returns-then-text-gt-MAX_TEXT : goal.returns-then-text-gt-MAX_TEXT
returns-then-text-gt-MAX_TEXT c =
    let a = c.args in
    read_long a.text.now a.entries.now a.sizes.now (omega (arith, c.if-entries-lt-MAX_ENTRIES.false)) (omega (arith, c.if-sizes-lt-MAX_GROUPS.false))
    c.if-text-gt-MAX_TEXT.true
    c.refused-then-text-gt-MAX_TEXT.result c.refused-then-text-gt-MAX_TEXT.ensures

pub clear-requires : goal.clear-requires
clear-requires c =
    (omega (arith, stores_entries c.read_text-r.ensures.0), omega (arith, c.read_text-r.auto, c.if-entries-lt-MAX_ENTRIES.false))

pub clear_sizes-requires : goal.clear_sizes-requires
clear_sizes-requires c = (
  omega (arith, stores_groups c.read_text-r.ensures.0 c.read_text-r.ensures.1),
  omega (arith, c.read_text-r.auto, c.if-sizes-lt-MAX_GROUPS.false),
)

pub returns : goal.returns
returns c =
    let a = c.args in
    read_done a.text.now a.entries.now a.sizes.now (omega (arith, c.if-entries-lt-MAX_ENTRIES.false)) (omega (arith, c.if-sizes-lt-MAX_GROUPS.false))
    (omega (arith, c.if-text-gt-MAX_TEXT.false)) c.read_text-r.ensures.0 c.read_text-r.ensures.1 c.clear.ensures c.clear_sizes.ensures
