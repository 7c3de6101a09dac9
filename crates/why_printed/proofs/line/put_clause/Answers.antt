-- `line::put_clause` meets its contract: the number, a colon, the literals, LF. Assumes nothing.
use Rattle.buffers.proofs.PutLaws.{put_then, put_same}
use Rattle.why_printed.proofs.ReasonLaws.{clause_line_lem}
use Rattle.why_printed.proofs.line.put_clause.Goals as goal

pub returns : goal.returns
returns c =
    put_same (clause_line_lem c.args.n.0 c.args.clause.now)
    (put_then c.put_field-behind_number.ensures (put_then c.put_byte-behind_colon.ensures (put_then c.put_literals-behind_literals.ensures c.put_byte.ensures)))
