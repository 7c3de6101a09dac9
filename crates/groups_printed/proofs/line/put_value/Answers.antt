-- `line::put_value` meets its contract: the group, the value, the word, LF. Assumes nothing.
use mathlib.Core.List.{List, ◌∷◌, ◌++◌}
use Prim.Native.Nat.{ℕ}
use Rattle.texts.specs.Plain.{decimal}
use Rattle.buffers.proofs.PutLaws.{put_then}
use Rattle.buffers.specs.Put.{Put}
use Rattle.groups_printed.proofs.line.put_value.Goals as goal

pub returns : goal.returns
returns c =
    let label : List ℕ =
    decimal c.args.group ++ 58 ∷ decimal c.args.value in
    let label_put : Put c.args.at label c.args.out.now c.put_field-behind_value.result c.put_field-behind_value.new.out =
    put_then c.put_decimal-behind_group.ensures c.put_field-behind_value.ensures in
    put_then (put_then label_put c.put_status-behind_status.ensures) c.put_byte.ensures
