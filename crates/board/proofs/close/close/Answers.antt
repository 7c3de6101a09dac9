-- `board::close::close` meets its contract. Assumes nothing.
use Rattle.board.proofs.CloseLaws.{closings_false, closings_still, closings_falls, closings_again}
use Rattle.board.proofs.SameLaws.{same_then}
use Rattle.board.proofs.close.close.Goals as goal

pub returns-in_default : goal.returns-in_default
returns-in_default c =
    let w = c.loop-set.invariant in
    record { done = closings_false c.requires w.0 c.round.ensures.done c.in_default.is; same = same_then w.1 c.round.ensures.same }

pub returns-then-set-eq0 : goal.returns-then-set-eq0
returns-then-set-eq0 c =
    let w = c.loop-set.invariant in
    record { done = closings_still c.requires w.0 c.round.ensures.done _ c.in-Some.is c.if-set-eq0.true; same = same_then w.1 c.round.ensures.same }

pub loop-set-smaller : goal.loop-set-smaller
loop-set-smaller c =
    closings_falls c.requires c.loop-set.invariant.0 c.round.ensures.done _
    c.in-Some.is c.if-set-eq0.false

pub loop-set-preserved : goal.loop-set-preserved
loop-set-preserved c = (
  closings_again c.requires c.loop-set.invariant.0 c.round.ensures.done _ c.in-Some.is c.if-set-eq0.false,
  same_then c.loop-set.invariant.1 c.round.ensures.same,
)
