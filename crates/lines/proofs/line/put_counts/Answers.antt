-- `line::put_counts` meets its contract: one field behind the other. Assumes nothing.
use Rattle.buffers.proofs.PutLaws.{put_then}
use Rattle.lines.proofs.line.put_counts.Goals as goal

pub returns : goal.returns
returns c =
    put_then c.put_field-behind_number.ensures (put_then c.put_field-behind_calls.ensures c.put_field.ensures)
