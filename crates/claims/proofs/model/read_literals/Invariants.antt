-- `claims::model::read_literals` meets its contract. The invariant of its loop: the literals so far have been read, and their values
-- stored. Assumes nothing.
use lib.ListN.{length}
use Rattle.claims.proofs.ModelLaws.{Reading}
use Rattle.claims.proofs.model.read_literals.Given as goal

abbrev pub invariant-loop-i : goal.invariant-loop-i
invariant-loop-i l = Reading l.text l.at (length l.initial.values) l.i l.next l.values
