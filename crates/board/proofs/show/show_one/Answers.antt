-- `board::show::show_one` meets its contract: by its three ways. Assumes nothing.
use native.Mathlib.Numerals.{add-one}
use Rattle.board.proofs.ShowLaws.{one_set}
use Rattle.board.proofs.show.show_one.Goals as goal

pub returns : goal.returns
returns c =
    record {
      done =
          one_set c.requires c.if-byte-eq0.false c.if-board-i-ne0.false
          (rw (c.literal_of-l.ensures, add-one c.args.i) at c.set_literal.ensures.done);
      same = c.set_literal.ensures.same;
    }
