-- `visit::visit_all` meets its contract. Assumes nothing.
use mathlib.Core.Path.{◌≡◌, ◌∙◌}
use native.Mathlib.Omega.{arith}
use native.Mathlib.Numerals.{add-one}
use Rattle.reason.proofs.AskLaws.{visiting_at, visiting_step, visiting_stop, visiting_done}
use Rattle.reason.proofs.visit.visit_all.Goals as goal

pub returns-in-Stopped : goal.returns-in-Stopped
returns-in-Stopped c =
    rw (add-one c.loop-n.calls)
    (visiting_stop (visiting_at c.loop-n-test.true c.loop-n.invariant.4)
    (rw c.loop-n.invariant.3 at c.visit-end.ensures) c.in-Stopped.is
    (c.visit-end.auto.marks ∙ c.loop-n.invariant.2 ∙ c.requires.0.asks.marks_are) (c.fill.ensures.after (λ y e. e)))

pub loop-n-preserved : goal.loop-n-preserved
loop-n-preserved c = (
  c.visit-end.auto.kept ∙ c.loop-n.invariant.0,
  c.visit-end.auto.starts ∙ c.loop-n.invariant.1,
  c.visit-end.auto.marks ∙ c.loop-n.invariant.2,
  c.visit-end.auto.values ∙ c.loop-n.invariant.3,
  rw (add-one c.loop-n.calls)
      (visiting_step (visiting_at c.loop-n-test.true c.loop-n.invariant.4)
      (rw c.loop-n.invariant.3 at c.visit-end.ensures)
      c.in_default.not-Stopped),
)

pub shape_of-kept : goal.shape_of-kept
shape_of-kept c =
    c.loop-n.invariant.0

pub shape_of-starts : goal.shape_of-starts
shape_of-starts c =
    c.loop-n.invariant.1

pub shape_of-marks : goal.shape_of-marks
shape_of-marks c =
    c.loop-n.invariant.2

pub returns : goal.returns
returns c =
    let z : c.loop-n.n ≡ 0 = omega (arith, c.loop-n-test.false) in
    (let zeros = c.fill-2.ensures.after (λ y e. e) in visiting_done (rw z at c.loop-n.invariant.4) (cc zeros))
