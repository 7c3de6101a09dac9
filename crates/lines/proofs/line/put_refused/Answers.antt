-- `line::put_refused` meets its contract: the number, the place, LF. Assumes nothing.
use Rattle.buffers.proofs.PutLaws.{put_then, put_same}
use Rattle.lines.proofs.LineLaws.{refused_line_lem}
use Rattle.lines.proofs.line.put_refused.Goals as goal

pub returns : goal.returns
returns c =
    put_same (refused_line_lem c.args.number c.args.place)
    (put_then c.put_field-behind_number.ensures (put_then c.put_field-behind_place.ensures c.put_byte.ensures))
