-- `reader::header::header_of` meets its contract. A header is the words of the line without the blanks behind. Assumes nothing.
use mathlib.Core.Path.{◌∙◌, ap}
use mathlib.Core.List.{List}
use Prim.Native.Nat.{ℕ}
use Rattle.rules.specs.Lists.{cut}
use Rattle.texts.specs.Text.{is_gap, sizes_of, words_of, header_of}
use Rattle.reader.specs.Words.{header_line}
use Rattle.reader.proofs.header.header_of.Goals as goal

pub returns : goal.returns
unfolding header_of
returns c =
    c.words_of.ensures ∙
    ap (λ (line : List ℕ). header_line (sizes_of (words_of (cut is_gap line)))) c.trimmed_len-n.ensures.is
