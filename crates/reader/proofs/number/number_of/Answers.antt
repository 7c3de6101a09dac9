-- `reader::number::number_of` meets its contract. Assumes nothing.
use mathlib.Core.Bool.{true}
use mathlib.Core.Path.{◌≡◌, sym, ◌∙◌}
use Prim.Native.Nat.{◌<◌, ◌≤◌}
use native.Mathlib.Omega.{arith}
use lib.ListN.{get_or}
use Rattle.texts.specs.Text.{is_digit}
use Rattle.texts.proofs.TokenLaws.{digit_most}
use Rattle.reader.proofs.NumberLaws.{digits_start, digits_small}
use Rattle.reader.proofs.number.number_of.Goals as goal

pub loop-b-init : goal.loop-b-init
loop-b-init c =
    digits_start c.args.word.now

pub overflow_mul-n : goal.overflow_mul-n
overflow_mul-n c =
    let small : c.loop-b.n < 100000000 =
    let l = c.loop-b in
    digits_small _ l.n l.b-index l.invariant (omega arith) in
    omega (arith, small)

pub overflow_add-n : goal.overflow_add-n
overflow_add-n c =
    let digit : is_digit (get_or c.args.word.now c.loop-b.b-index 0) ≡ true = sym c.is_ascii_digit.ensures.value ∙ c.if-not-is_ascii_digit.false in
    let high : get_or c.args.word.now c.loop-b.b-index 0 ≤ 57 = digit_most _ digit in
    let small : c.loop-b.n < 100000000 =
    let l = c.loop-b in
    digits_small _ l.n l.b-index l.invariant (omega arith) in
    omega (arith, small, high)
