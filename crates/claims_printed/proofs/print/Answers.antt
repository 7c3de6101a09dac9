-- `print` meets its contract: nothing in a short buffer, the line in others. Assumes nothing.
use mathlib.Core.Path.{refl}
use native.Mathlib.Omega.{arith}
use Rattle.claims_printed.proofs.VerdictLaws.{whole_room, prints_verdict}
use Rattle.claims_printed.proofs.print.Goals as goal

pub put_text-requires : goal.put_text-requires
put_text-requires c =
    let a = c.args in
    (whole_room a.text.now a.claims.now a.out.now (omega arith), refl)

pub returns : goal.returns
returns c =
    prints_verdict (omega arith) c.put_text.ensures.put
