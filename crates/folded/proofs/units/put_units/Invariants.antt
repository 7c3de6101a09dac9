-- `units::put_units` meets its contract. The invariant of its loop: the lines of the first i variables are put, and with the others behind
-- them all are. The measure is what is left of the values. Assumes nothing.
use Rattle.buffers.proofs.PieceLaws.{Piecing}
use Rattle.folded.specs.Folded.{unit_line}
use Rattle.folded.proofs.units.put_units.Given as goal

abbrev pub invariant-loop-i : goal.invariant-loop-i
invariant-loop-i l = Piecing unit_line l.values l.at l.initial.out l.i l.next l.out
