-- `reader::read_text` meets its contract. By the line that is found, which lies within the text. Assumes nothing.
use mathlib.Core.Path.{sym, ◌∙◌}
use Rattle.reader.proofs.LineLaws.{text_missing, text_line, line_inside}
use Rattle.reader.proofs.StoreLaws.{stores_of, stores_refused}
use Rattle.reader.proofs.read_text.Goals as goal

pub read_header-requires : goal.read_header-requires
read_header-requires c =
    let line = sym c.first_line.ensures ∙ c.in-Some.is in
    let w = line_inside c.args.text.now c.in-Some.from c.in-Some.to line in
    (w.ends, w.most, c.requires)

pub returns-in_default : goal.returns-in_default
returns-in_default c =
    stores_refused c.args.entries.now
    (text_missing c.args.text.now (sym c.first_line.ensures ∙ c.in_default.is))

pub returns : goal.returns
returns c =
    stores_of
    (text_line c.args.text.now c.in-Some.from c.in-Some.to
    (sym c.first_line.ensures ∙ c.in-Some.is))
    c.read_header.ensures
