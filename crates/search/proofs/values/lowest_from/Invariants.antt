-- `search::values::lowest_from` meets its contract. The invariant of its loop: no variable below index i is unset. Assumes nothing.
use Rattle.search.proofs.ValueLaws.{Passed}
use Rattle.search.proofs.values.lowest_from.Given as goal

abbrev pub invariant-loop-i : goal.invariant-loop-i
invariant-loop-i l = Passed l.values l.i
