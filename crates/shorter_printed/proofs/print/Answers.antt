-- `print` meets its contract: nothing in a short buffer, the shorter file in others. Assumes nothing.
use native.Mathlib.Omega.{arith}
use Rattle.shorter_printed.proofs.TextLaws.{prints_text}
use Rattle.shorter_printed.proofs.print.Goals as goal

pub returns : goal.returns
returns c =
    prints_text (omega arith) c.put_text.ensures.put
