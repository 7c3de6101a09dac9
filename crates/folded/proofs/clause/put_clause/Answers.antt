-- `clause::put_clause` meets its contract: the literals that stay, then 0 and LF. Assumes nothing.
use Rattle.buffers.proofs.PutLaws.{put_then}
use Rattle.folded.proofs.clause.put_clause.Goals as goal

pub returns : goal.returns
returns c =
    put_then c.put_literals-next.ensures c.put_word.ensures
