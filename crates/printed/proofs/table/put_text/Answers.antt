-- `table::put_text` meets its contract: what the reading left is an entry list, or a refusal. Assumes nothing.
use mathlib.Core.Path.{sym}
use Rattle.buffers.proofs.PutLaws.{room_same, put_same}
use Rattle.printed.proofs.TableLaws.{read_list, read_line}
use Rattle.printed.proofs.table.put_text.Goals as goal

pub slice_bounds-put_list-end : goal.slice_bounds-put_list-end
slice_bounds-put_list-end c = (read_list c.read-reading.ensures c.requires.1 c.args.held.now c.in-Accepted.is).counted

pub put_list-requires : goal.put_list-requires
put_list-requires c =
    let l = read_list c.read-reading.ensures c.requires.1 c.args.held.now c.in-Accepted.is in
    record { runs = l.runs; room = room_same l.table_is c.requires.0 }

pub put_refusal-requires : goal.put_refusal-requires
put_refusal-requires c =
    room_same (read_line c.read-reading.ensures c.requires.1 c.args.held.now c.in_default.not-Accepted) c.requires.0

pub returns-in_default : goal.returns-in_default
returns-in_default c =
    record {
      put =
          put_same (sym (read_line c.read-reading.ensures c.requires.1 c.args.held.now c.in_default.not-Accepted))
          c.put_refusal.ensures;
      entries_are = c.read-reading.ensures.after_is;
    }
