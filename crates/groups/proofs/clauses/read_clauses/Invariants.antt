-- `groups::clauses::read_clauses` meets its contract. The invariant of its loop, `Clausing`: so many entries are read, and stored if there is
-- room. The measure is what is left of the text. Assumes nothing.
use Prim.Native.Nat.{◌-◌}
use lib.ListN.{length}
use Rattle.groups.specs.Clauses.{Clausing}
use Rattle.groups.proofs.clauses.read_clauses.Given as goal

abbrev pub invariant-loop-to : goal.invariant-loop-to
invariant-loop-to l = Clausing l.text l.at l.vars l.clauses l.base l.initial.entries l.next l.complete l.n l.entries

abbrev pub decreases-loop-to : goal.decreases-loop-to
decreases-loop-to l = length l.text - l.next
