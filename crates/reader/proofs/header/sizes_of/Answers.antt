-- `reader::header::sizes_of` meets its contract. By the tests on the way, in the order of the definition. Assumes nothing.
use Rattle.std.proofs.Common.{[], ◌∷◌}
use Rattle.reader.proofs.HeaderLaws.{word_other}
use Rattle.reader.proofs.header.sizes_of.Goals as goal

pub returns-then-ne : goal.returns-then-ne
returns-then-ne c =
    let p = c.args.p.now in
    let cnf = c.args.cnf.now in
    elim c.then-ne.branch [
      | goal.then-ne-via-then-ne w ↦ rw (word_other p (112 ∷ []) c.ne.ensures c.as_slice.ensures w.if-ne.true)
      | goal.then-ne-via-else-ne+then-ne-2 w ↦
          rw (
            word_other p (112 ∷ []) c.ne.ensures c.as_slice.ensures w.if-ne.false,
            word_other cnf (99 ∷ 110 ∷ 102 ∷ []) w.ne-else-ne.ensures w.as_slice-else-ne.ensures w.if-ne-2.true,
          )
    ]
