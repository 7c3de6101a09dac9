-- `put_header` meets its contract: the variables, the clauses, LF. Assumes nothing.
use Rattle.buffers.proofs.PutLaws.{put_then, put_same}
use Rattle.folded.proofs.FoldedLaws.{header_line_lem}
use Rattle.folded.proofs.put_header.Goals as goal

pub returns : goal.returns
returns c =
    put_same (header_line_lem c.args.vars c.args.clauses)
    (put_then c.put_field-behind_vars.ensures (put_then c.put_field-behind_clauses.ensures c.put_byte.ensures))
