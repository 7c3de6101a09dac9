-- `board::flip::first_in` meets its contract. The invariant of its loop: no clause of the list passed is false. Assumes nothing.
use Rattle.rules.specs.Meaning.{clauses}
use Rattle.board.proofs.FlipLaws.{Scanning}
use Rattle.board.proofs.flip.first_in.Given as goal

abbrev pub invariant-loop-c : goal.invariant-loop-c
invariant-loop-c l = Scanning l.values (clauses l.entries) l.list l.c-index
