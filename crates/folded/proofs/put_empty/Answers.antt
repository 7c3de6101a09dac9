-- `put_empty` meets its contract: the header, and the line of one empty clause. Assumes nothing.
use mathlib.Core.Path.{sym}
use mathlib.Core.List.{[], ◌∷◌, ◌++◌}
use Rattle.buffers.specs.Put.{Room}
use Rattle.buffers.proofs.PutLaws.{room_first, room_then, room_same, put_then, put_same}
use Rattle.folded.specs.Folded.{header_text}
use Rattle.folded.proofs.FoldedLaws.{empty_says}
use Rattle.folded.proofs.put_empty.Goals as goal

pub put_header-next-requires : goal.put_header-next-requires
put_header-next-requires c =
    let room : Room 0 (header_text c.args.vars 1 ++ (48 ∷ 10 ∷ [])) c.args.out.now =
    room_same (sym (empty_says c.args.vars)) c.requires in
    room_first (header_text c.args.vars 1) (48 ∷ 10 ∷ []) room

pub put_word-requires : goal.put_word-requires
put_word-requires c =
    let room : Room 0 (header_text c.args.vars 1 ++ (48 ∷ 10 ∷ [])) c.args.out.now =
    room_same (sym (empty_says c.args.vars)) c.requires in
    room_then (header_text c.args.vars 1) (48 ∷ 10 ∷ []) room c.put_header-next.ensures

pub returns : goal.returns
returns c =
    put_same (empty_says c.args.vars) (put_then c.put_header-next.ensures c.put_word.ensures)
