-- `pair::put_pair` meets its contract: one line behind the other. Assumes nothing.
use Rattle.buffers.proofs.PutLaws.{put_then}
use Rattle.witness_printed.proofs.pair.put_pair.Goals as goal

pub returns : goal.returns
returns c =
    record {
      put = put_then c.put_line-next.ensures.put c.put_line.ensures.put;
      bits_are = c.put_line.ensures.bits_are;
    }
