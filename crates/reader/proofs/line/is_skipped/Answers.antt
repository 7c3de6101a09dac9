-- `reader::line::is_skipped` meets its contract. Past the first byte all are asked. Assumes nothing.
use Rattle.std.proofs.Common.{sym, ◌∙◌, rules}
use Rattle.std.proofs.lemmas.Iterator.{YieldsList-from_slice}
use Rattle.std.proofs.lemmas.Iterator.Search.{all_from_yields_List}
use Rattle.texts.specs.Text.{is_blank}
use Rattle.reader.proofs.LineLaws.{skipped_all}
use Rattle.reader.proofs.line.is_skipped.Goals as goal

pub returns-else-starts_with : goal.returns-else-starts_with
returns-else-starts_with c =
    let xs = c.args.line.now in
    let each = all_from_yields_List is_blank _ _ c.all.result c.all.ensures.ran (YieldsList-from_slice xs cc) (λ x b q k. search rules) in
    skipped_all xs c.all.result (sym c.starts_with.ensures.value ∙ c.if-starts_with.false) each
