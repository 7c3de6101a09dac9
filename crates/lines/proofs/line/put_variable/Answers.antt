-- `line::put_variable` meets its contract: the number, the words, LF. Assumes nothing.
use Rattle.buffers.proofs.PutLaws.{put_then}
use Rattle.lines.proofs.line.put_variable.Goals as goal

pub returns : goal.returns
returns c =
    put_then c.put_decimal-behind_variable.ensures (put_then c.put_status-behind_status.ensures c.put_byte.ensures)
