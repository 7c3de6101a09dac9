-- `answer::put_false` meets its contract: the first line, then the model. Assumes nothing.
use Rattle.buffers.proofs.PutLaws.{put_then}
use Rattle.why_printed.proofs.answer.put_false.Goals as goal

pub returns : goal.returns
returns c =
    put_then c.put_first-next.ensures c.put_model.ensures
