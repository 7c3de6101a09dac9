-- `reader::tokens::ends_text` meets its contract. By the two tests. Assumes nothing.
use Rattle.std.proofs.Common.{[], ◌∷◌}
use Rattle.reader.proofs.HeaderLaws.{word_is}
use Rattle.reader.proofs.tokens.ends_text.Goals as goal

pub returns-else-eq : goal.returns-else-eq
returns-else-eq c = rw (word_is c.args.word.now (37 ∷ []) c.eq.ensures c.as_slice.ensures c.if-eq.false) c.if-eq.false
