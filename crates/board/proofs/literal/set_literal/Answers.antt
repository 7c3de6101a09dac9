-- `board::literal::set_literal` meets its contract: two changes, each of which can be made, and a place on the trail. Assumes nothing.
use mathlib.Core.Path.{refl, ◌∙◌, ap}
use Prim.Native.Nat.{◌<◌}
use native.Mathlib.Omega.{arith}
use Rattle.board.specs.Boards.{pushed}
use Rattle.board.proofs.CodeLaws.{code_of_lt}
use Rattle.board.proofs.BoardLaws.{set_asks, set_asks_other, set_done, set_room, set_few}
use Rattle.board.proofs.literal.set_literal.Goals as goal

pub change_at-requires : goal.change_at-requires
change_at-requires c =
    rw c.code_of-k.ensures
    (set_asks c.requires.can)

pub change_at-requires-2 : goal.change_at-requires-2
change_at-requires-2 c =
    rw (c.other_code.ensures, c.code_of-k.ensures)
    (set_asks_other c.requires.can
    (rw c.code_of-k.ensures at c.change_at.ensures))

pub push-requires : goal.push-requires
push-requires c =
    let small : c.code_of-k.result < 65535 =
    omega (arith, c.code_of-k.ensures, code_of_lt c.args.l.0 c.requires.can.literal, c.requires.can.shows.small.vars_fit) in
    (set_room c.requires.can, set_few c.requires.can, omega (arith, small))

pub returns : goal.returns
returns c =
    let trailed = c.push.ensures ∙ ap (pushed c.args.board.now.trail.now) c.code_of-k.ensures in
    record {
      done =
          record {
            values_are = c.make_true.ensures;
            trail_is = trailed;
            shows =
                λ F w. rw c.make_true.ensures
                (set_done (record { shows = w; literal = c.requires.can.literal; unset = c.requires.can.unset })
                (rw c.code_of-k.ensures at c.change_at.ensures)
                (rw (c.other_code.ensures, c.code_of-k.ensures) at c.change_at-2.ensures) trailed);
          };
      same =
          record {
            values = c.make_true.auto.values;
            keys = c.change_at-2.auto.keys ∙ c.change_at.auto.keys;
            hot = c.change_at-2.auto.hot ∙ c.change_at.auto.hot;
            trail = c.push.auto.trail;
            values_stay = refl;
            keys_stay = refl;
            hot_stay = refl;
            trail_stay = refl;
          };
    }
