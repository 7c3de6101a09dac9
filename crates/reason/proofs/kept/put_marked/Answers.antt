-- `kept::put_marked` meets its contract. Assumes nothing.
use mathlib.Core.Path.{ap}
use native.Mathlib.Omega.{arith}
use lib.Dec.{lit<}
use mir.Syntax.{w32}
use mir.Val.{of_z}
use Rattle.formula.proofs.SignedLaws.{of_z_inj}
use Rattle.reason.proofs.KeptLaws.{puts_clause, puts_zero, puts_other, puts_done}
use Rattle.reason.proofs.kept.put_marked.Goals as goal
use Rattle.reason.proofs.kept.put_marked.Goals.{then-entry-eq0, else-entry-eq0}

pub bounds-marks-clause : goal.bounds-marks-clause
bounds-marks-clause c =
    puts_clause c.requires c.loop-i.invariant c.loop-i-test.true

pub loop-i-preserved : goal.loop-i-preserved
loop-i-preserved c =
    elim c.if-entry-eq0.branch [
      | then-entry-eq0 w ↦
          rw w.clause-is
          (puts_zero c.requires c.loop-i.invariant c.loop-i-test.true c.put_if-n.ensures
          (of_z_inj (omega arith) (lit< tt) w.if-entry-eq0.true))
      | else-entry-eq0 w ↦
          rw w.clause-is
          (puts_other c.requires c.loop-i.invariant c.loop-i-test.true c.put_if-n.ensures
          (λ z. w.if-entry-eq0.false (ap (of_z w32) z)))
    ]

pub returns : goal.returns
returns c =
    puts_done c.loop-i.invariant c.loop-i-test.false
