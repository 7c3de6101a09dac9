-- `board::constraint::mark_all` meets its contract. Assumes nothing.
use Prim.Native.Nat.{◌-◌}
use lib.IntN.{pos}
use lib.ListN.{get_or}
use Rattle.rules.proofs.BitLaws.{to_z-of_z_at}
use Rattle.board.proofs.ConstraintLaws.{marking_start, mark_asks, marking_step}
use Rattle.board.proofs.constraint.mark_all.Goals as goal

pub loop-i-init : goal.loop-i-init
loop-i-init c =
    marking_start c.requires

pub mark-key-requires : goal.mark-key-requires
mark-key-requires c =
    rw (to_z-of_z_at _ (record { sfits = c.mark-arg-in-loop-i-1.given }))
    (mark_asks c.requires c.loop-i-test.true c.loop-i.invariant)

pub loop-i-preserved : goal.loop-i-preserved
loop-i-preserved c =
    marking_step c.requires c.loop-i-test.true c.loop-i.invariant
    (rw (to_z-of_z_at (get_or c.args.constraint.now (c.loop-i.i - 1) (pos 0))
    (record { sfits = c.mark-arg-in-loop-i-1.given })) at c.mark-key.ensures)
    c.mark-key.auto.marks
