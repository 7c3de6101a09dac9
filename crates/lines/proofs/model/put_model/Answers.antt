-- `model::put_model` meets its contract: the literals, then LF. Assumes nothing.
use Rattle.buffers.proofs.PutLaws.{put_then}
use Rattle.lines.proofs.model.put_model.Goals as goal

pub returns : goal.returns
returns c =
    put_then c.put_literals-next.ensures c.put_byte.ensures
