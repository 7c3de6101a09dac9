-- `print` meets its contract: nothing in a short buffer, the table in others. Assumes nothing.
use mathlib.Core.Path.{refl}
use native.Mathlib.Omega.{arith}
use Rattle.groups_printed.proofs.TableLaws.{whole_room, prints_table}
use Rattle.groups_printed.proofs.print.Goals as goal

pub put_text-requires : goal.put_text-requires
put_text-requires c =
    (whole_room c.args.text.now c.args.out.now (omega arith), refl, refl)

pub returns : goal.returns
returns c =
    prints_table (omega arith) c.put_text.ensures
