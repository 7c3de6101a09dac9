-- `table::put_text` meets its contract: what the reading left is an expanded list, or a refusal. Assumes nothing.
use mathlib.Core.Path.{sym}
use lib.Seq.{length-take-le}
use Rattle.buffers.proofs.PutLaws.{room_same, put_same}
use Rattle.groups_printed.proofs.TableLaws.{read_list, read_line}
use Rattle.groups_printed.proofs.table.put_text.Goals as goal

pub slice_bounds-put_list-end : goal.slice_bounds-put_list-end
slice_bounds-put_list-end c = (read_list c.read_groups-reading.ensures c.requires.1 c.requires.2 c.in-Accepted.is).counted

pub slice_bounds-put_list-end-in-Accepted : goal.slice_bounds-put_list-end-in-Accepted
slice_bounds-put_list-end-in-Accepted c =
    sym (length-take-le _ _ (read_list c.read_groups-reading.ensures c.requires.1 c.requires.2 c.in-Accepted.is).counted)

pub slice_bounds-put_list-end-in-Accepted-2 : goal.slice_bounds-put_list-end-in-Accepted-2
slice_bounds-put_list-end-in-Accepted-2 c =
    (read_list c.read_groups-reading.ensures c.requires.1 c.requires.2 c.in-Accepted.is).groups_counted

pub slice_bounds-put_list-end-in-Accepted-3 : goal.slice_bounds-put_list-end-in-Accepted-3
slice_bounds-put_list-end-in-Accepted-3 c =
    sym (length-take-le _ _ (read_list c.read_groups-reading.ensures c.requires.1 c.requires.2 c.in-Accepted.is).groups_counted)

pub put_list-requires : goal.put_list-requires
put_list-requires c =
    let l = read_list c.read_groups-reading.ensures c.requires.1 c.requires.2 c.in-Accepted.is in
    record { runs = l.runs; vars_are = l.vars_are; few = l.few; room = room_same l.table_is c.requires.0 }

pub returns-in-Accepted : goal.returns-in-Accepted
returns-in-Accepted c =
    put_same (sym (read_list c.read_groups-reading.ensures c.requires.1 c.requires.2 c.in-Accepted.is).table_is) c.put_list.ensures

pub put_refusal-requires : goal.put_refusal-requires
put_refusal-requires c =
    room_same (read_line c.read_groups-reading.ensures c.requires.1 c.requires.2 c.in_default.not-Accepted) c.requires.0

pub returns-in_default : goal.returns-in_default
returns-in_default c =
    put_same (sym (read_line c.read_groups-reading.ensures c.requires.1 c.requires.2 c.in_default.not-Accepted))
    c.put_refusal.ensures
