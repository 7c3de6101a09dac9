-- `buffers::put::put_field` meets its contract: the number stands behind the word. Assumes nothing.
use Rattle.buffers.proofs.PutLaws.{put_then}
use Rattle.buffers.proofs.put.put_field.Goals as goal

pub returns : goal.returns
returns c =
    put_then c.put_word-next.ensures c.put_decimal.ensures
