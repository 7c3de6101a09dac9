-- `put_text` meets its contract: what the reading left is an entry list, whose shorter file is written, or a refusal. Assumes nothing.
use mathlib.Core.Path.{sym}
use lib.Seq.{length-take-le}
use Rattle.buffers.proofs.PutLaws.{room_same, put_same}
use Rattle.shorter_printed.proofs.TextLaws.{counted, put_shorter, put_line, line_room}
use Rattle.shorter_printed.proofs.put_text.Goals as goal

pub slice_bounds-list-end : goal.slice_bounds-list-end
slice_bounds-list-end c = counted c.read-reading.ensures c.requires.1 c.in-Accepted.is

pub slice_bounds-list-end-in-Accepted : goal.slice_bounds-list-end-in-Accepted
slice_bounds-list-end-in-Accepted c = sym (length-take-le _ _ (counted c.read-reading.ensures c.requires.1 c.in-Accepted.is))

pub put_refusal-requires : goal.put_refusal-requires
put_refusal-requires c =
    room_same (put_line c.read-reading.ensures c.requires.1 c.in_default.not-Accepted)
    (line_room c.args.text.now c.args.out.now c.requires.0)

pub returns-in-Accepted : goal.returns-in-Accepted
returns-in-Accepted c =
    record {
      put = put_shorter c.read-reading.ensures c.requires.1 c.in-Accepted.is c.requires.0 c.shorter-report.ensures;
      entries_are = c.read-reading.ensures.after_is;
    }

pub returns-in_default : goal.returns-in_default
returns-in_default c =
    record {
      put = put_same (sym (put_line c.read-reading.ensures c.requires.1 c.in_default.not-Accepted)) c.put_refusal.ensures;
      entries_are = c.read-reading.ensures.after_is;
    }
