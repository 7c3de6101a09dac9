-- `board::chain::build_index` meets its contract. Assumes nothing.
use native.Mathlib.Omega.{arith}
use Rattle.board.proofs.IndexLaws.{put_all_asked, holders_of}
use Rattle.board.proofs.chain.build_index.Goals as goal

pub put_all-requires : goal.put_all-requires
put_all-requires c =
    let r = c.requires in
    put_all_asked c.link_all.ensures.done
    (omega (arith, c.link_all.ensures.same.owners, r.link_all.owner_room))
    (omega (arith, c.link_all.ensures.same.nexts, r.link_all.next_room))
    r.start_room r.room r.small

pub returns : goal.returns
returns c =
    record {
      done = holders_of c.link_all.ensures.done.linked c.put_all.ensures (omega (arith, c.put_all.auto.starts, c.requires.start_room));
      same = c.link_all.ensures.same;
    }
