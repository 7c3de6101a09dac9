-- `board::literal::unset_last` meets its contract: two changes, each of which can be made, and a place less on the trail. Assumes nothing.
use mathlib.Core.Path.{refl, ◌∙◌}
use lib.ListN.{get_or, length-set}
use Rattle.board.specs.Boards.{trail_len}
use Rattle.board.proofs.BoardLaws.{unset_asks, unset_asks_other, unset_done, unassign_code}
use Rattle.board.proofs.literal.unset_last.Goals as goal

pub change_at-requires : goal.change_at-requires
change_at-requires c =
    unset_asks c.requires.can

pub change_at-requires-2 : goal.change_at-requires-2
change_at-requires-2 c =
    rw c.other_code.ensures
    (unset_asks_other c.requires.can
    c.change_at.ensures)

pub returns : goal.returns
returns c =
    let b = c.args.board.now in
    let valued = unassign_code b.values.now (get_or b.trail.now (trail_len b.trail.now) 0) in
    record {
      done =
          record {
            values_are = valued;
            trail_is = refl;
            shows =
                λ F w. rw valued
                (unset_done (record { shows = w; some = c.requires.can.some; literal = c.requires.can.literal; true_here = c.requires.can.true_here })
                c.change_at.ensures
                (rw c.other_code.ensures at c.change_at-2.ensures) refl);
          };
      same =
          record {
            values = length-set b.values.now _ _;
            keys = c.change_at-2.auto.keys ∙ c.change_at.auto.keys;
            hot = c.change_at-2.auto.hot ∙ c.change_at.auto.hot;
            trail = length-set b.trail.now _ _;
            values_stay = refl;
            keys_stay = refl;
            hot_stay = refl;
            trail_stay = refl;
          };
    }
