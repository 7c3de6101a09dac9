-- `line::put_lines` meets its contract. Assumes nothing.
use mathlib.Core.Path.{sym}
use lib.ListN.{get_or}
use Rattle.buffers.proofs.PutLaws.{room_same, put_same}
use Rattle.buffers.proofs.PieceLaws.{piecing_start, piecing_step, piecing_done}
use Rattle.lines.proofs.LineLaws.{lines_pieces, line_at}
use Rattle.lines.proofs.line.put_lines.Goals as goal

pub loop-i-init : goal.loop-i-init
loop-i-init c =
    piecing_start (room_same (lines_pieces 1 c.args.status.now c.args.hints.now) c.requires.room)

pub loop-i-preserved : goal.loop-i-preserved
loop-i-preserved c =
    let a = c.args in
    let i = c.loop-i.i in
    piecing_step 0 c.loop-i.invariant c.loop-i-test.true
    (put_same (sym (line_at a.hints.now i (get_or a.status.now i 0))) c.put_variable-next.ensures)

pub returns : goal.returns
returns c =
    let a = c.args in
    put_same (sym (lines_pieces 1 a.status.now a.hints.now)) (piecing_done c.loop-i.invariant c.loop-i-test.false)
