-- `reader::skip::past_blank` meets its contract. By the blank, and the byte behind it. Assumes nothing.
use mathlib.Core.Path.{sym, ◌∙◌, subst}
use borrow.Author.Tests.{ne_eqb}
use Rattle.std.proofs.Common.{rules}
use Rattle.texts.specs.Text.{is_lf}
use Rattle.reader.specs.Skips.{Past}
use Rattle.reader.proofs.SkipLaws.{past_blank, past_lf, past_comment}
use Rattle.reader.proofs.skip.past_blank.Goals as goal

pub returns-then-text-i-ne10 : goal.returns-then-text-i-ne10
returns-then-text-i-ne10 c =
    let s = c.args in
    past_blank s.text.now s.i c.requires.0 c.requires.1 (ne_eqb _ _ c.if-text-i-ne10.true)

pub returns-then-not-starts_comment : goal.returns-then-not-starts_comment
returns-then-not-starts_comment c =
    let s = c.args in
    past_lf s.text.now s.i c.requires.0 c.requires.1 (sym c.starts_comment.ensures ∙ c.if-not-starts_comment.true)

pub returns : goal.returns
returns c =
    let s = c.args in
    subst (Past s.text.now s.i) (sym (c.find.ensures.first is_lf (λ b r w h. search rules)))
    (past_comment s.text.now s.i c.requires.0 c.requires.1 c.if-text-i-ne10.false
    (sym c.starts_comment.ensures ∙ c.if-not-starts_comment.false))
