-- `formula::starts::find_starts` meets its contract. Assumes nothing.
use mathlib.Core.Path.{◌≡◌, ap}
use Prim.Native.Nat.{◌<◌}
use native.Mathlib.Omega.{arith}
use lib.Dec.{lit<}
use lib.IntN.{pos}
use lib.ListN.{get_or, set, length, length-set}
use mir.Syntax.{w32}
use mir.Val.{of_z}
use borrow.Author.Rules.{rules}
use Rattle.rules.specs.Meaning.{clauses}
use Rattle.formula.proofs.SignedLaws.{of_z_inj}
use Rattle.formula.proofs.StartsLaws.{scan_start, scan_zero, scan_other}
use Rattle.formula.proofs.starts.find_starts.Goals as goal
use Rattle.formula.proofs.starts.find_starts.Goals.{then-entry-eq0, else-entry-eq0}

pub loop-i-init : goal.loop-i-init
loop-i-init c =
    scan_start c.args.entries.now c.args.starts.now (search rules)

pub loop-i-preserved : goal.loop-i-preserved
loop-i-preserved c =
    let l = c.loop-i in
    let room : length (clauses c.args.entries.now) < length (set c.args.starts.now 0 0) =
    omega (arith, length-set c.args.starts.now 0 0, c.requires.room) in
    elim c.if-entry-eq0.branch [
      | then-entry-eq0 w ↦
          let is_zero : get_or c.args.entries.now l.i (pos 0) ≡ pos 0 = of_z_inj (search rules) (lit< tt) w.if-entry-eq0.true in
          rw (w.starts-is, w.clauses-is) (scan_zero c.args.entries.now _ l.starts l.clauses l.i c.loop-i-test.true l.invariant is_zero room)
      | else-entry-eq0 w ↦
          rw (w.starts-is, w.clauses-is)
          (scan_other c.args.entries.now _ l.starts l.clauses l.i c.loop-i-test.true l.invariant
          (λ e. w.if-entry-eq0.false (ap (of_z w32) e)))
    ]
