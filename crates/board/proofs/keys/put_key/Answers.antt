-- `board::keys::put_key` meets its contract: by the law for each of its four ways. Assumes nothing.
use mathlib.Core.Path.{refl, sym, ◌∙◌}
use native.Mathlib.Omega.{arith}
use borrow.Author.Tests.{le-leb, lt-leb}
use Rattle.board.proofs.BlockLaws.{hot_pos, hot_le, blocks_same, blocks_falls, blocks_rises}
use Rattle.board.proofs.keys.put_key.Goals as goal
use Rattle.board.proofs.keys.put_key.Goals.{then-keys-i-le1+then-key-gt1, then-keys-i-le1+else-key-gt1, else-keys-i-le1+then-key-le1}
use Rattle.board.proofs.keys.put_key.Goals.{else-keys-i-le1+else-key-le1}

pub overflow_sub-hot : goal.overflow_sub-hot
overflow_sub-hot c =
    omega (arith, hot_pos c.args.keys.now c.args.hot.now c.args.i c.requires.0 c.requires.1 (le-leb _ _ c.if-keys-i-le1.true))

pub overflow_add-hot : goal.overflow_add-hot
overflow_add-hot c =
    omega (arith, hot_le c.args.keys.now c.args.hot.now c.args.i c.requires.0 c.requires.1, c.requires.1.small)

pub returns : goal.returns
returns c =
    let keys = c.args.keys.now in
    let hot = c.args.hot.now in
    let i = c.args.i in
    let key = c.args.key in
    let falls = blocks_falls keys hot i c.requires.0 c.requires.1 key in
    let rises = blocks_rises keys hot i c.requires.0 c.requires.1 key in
    let same = blocks_same keys hot i c.requires.0 c.requires.1 key in (
      refl,
      elim c.if-keys-i-le1.branch [
        | then-keys-i-le1+then-key-gt1 w ↦ rw w.hot-is (falls (le-leb _ _ w.if-keys-i-le1.true) (lt-leb _ _ w.if-key-gt1.true))
        | then-keys-i-le1+else-key-gt1 w ↦ rw w.hot-is (same (le-leb _ _ w.if-keys-i-le1.true ∙ sym (le-leb _ _ w.if-key-gt1.false)))
        | else-keys-i-le1+then-key-le1 w ↦ rw w.hot-is (rises (lt-leb _ _ w.if-keys-i-le1.false) (le-leb _ _ w.if-key-le1.true))
        | else-keys-i-le1+else-key-le1 w ↦ rw w.hot-is (same (lt-leb _ _ w.if-keys-i-le1.false ∙ sym (lt-leb _ _ w.if-key-le1.false)))
      ],
    )
