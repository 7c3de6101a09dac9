-- `reader::token::token_of` meets its contract. By the first byte. Assumes nothing.
use Rattle.std.proofs.Common.{◌∙◌, ap, true, false, arith}
use borrow.Author.Tests.{ltb-true, ltb-false}
use Rattle.reader.specs.Words.{signed_token}
use Rattle.reader.proofs.TokenLaws.{token_none, token_minus, token_plain}
use Rattle.reader.proofs.token.token_of.Goals as goal

pub returns-in-45 : goal.returns-in-45
returns-in-45 c =
    c.signed.ensures ∙ ap (signed_token true) c.number_of.ensures ∙ token_minus c.args.word.now c.in-45.len_at_least (omega arith)

pub returns-in_default : goal.returns-in_default
returns-in_default c =
    c.signed-in_default.ensures ∙
    ap (signed_token false) c.number_of-in_default.ensures ∙
    elim c.in_default.branch [
      | goal.in_default-via-then-word-lt1 w ↦ token_none c.args.word.now (omega (arith, ltb-true))
      | goal.in_default-via-else-word-lt1+in_default-1 w ↦ token_plain c.args.word.now (omega (arith, ltb-false)) (omega arith)
    ]
