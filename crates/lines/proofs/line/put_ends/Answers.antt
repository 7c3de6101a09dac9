-- `line::put_ends` meets its contract: one field behind the other, then LF. Assumes nothing.
use Rattle.buffers.proofs.PutLaws.{put_then}
use Rattle.lines.proofs.line.put_ends.Goals as goal

pub returns : goal.returns
returns c =
    put_then c.put_field-behind_forced.ensures (put_then c.put_field-behind_free.ensures (put_then c.put_field-behind_open.ensures c.put_byte.ensures))
