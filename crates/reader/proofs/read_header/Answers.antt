-- `reader::read_header` meets its contract. By what the line says, and whether it fits. Assumes nothing.
use mathlib.Core.Path.{◌≡◌, sym, ◌∙◌}
use mathlib.Core.Bool.{true}
use Rattle.texts.specs.Reading.{fits}
use Rattle.reader.specs.Words.{sizes}
use Rattle.reader.proofs.HeaderLaws.{line_fits, small_both}
use Rattle.reader.proofs.StoreLaws.{stores_of}
use Rattle.reader.proofs.read_header.Goals as goal

pub returns : goal.returns
returns c =
    let small : fits (sizes c.in-Some.h) ≡ true = small_both c.in-Some.h c.if-h-gt-MAX_VARS.false c.if-h-gt-MAX_CLAUSES.false in
    stores_of
    (line_fits c.args.text.now c.args.from c.args.to c.in-Some.h
    (sym c.header_of.ensures ∙ c.in-Some.is) small c.requires.0 c.requires.1)
    c.read_tokens.ensures
