-- `print` meets its contract: nothing in a short buffer, the answer in others. Assumes nothing.
use mathlib.Core.Path.{refl}
use native.Mathlib.Omega.{arith}
use Rattle.witness_printed.proofs.AnswerLaws.{whole_room, prints_answer}
use Rattle.witness_printed.proofs.print.Goals as goal

pub put_text-requires : goal.put_text-requires
put_text-requires c =
    let a = c.args in
    (whole_room a.text.now a.variable a.out.now (omega arith), refl)

pub returns : goal.returns
returns c =
    prints_answer (omega arith) c.put_text.ensures.put
