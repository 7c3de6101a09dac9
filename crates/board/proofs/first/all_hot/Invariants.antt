-- `board::first::all_hot` meets its contract. The invariant of its loop: the blocks of the first i clauses. The measure is what is left.
-- Assumes nothing.
use Rattle.board.proofs.FirstLaws.{Heating}
use Rattle.board.proofs.first.all_hot.Given as goal

abbrev pub invariant-loop-i : goal.invariant-loop-i
invariant-loop-i l = Heating l.count l.initial.hot l.i l.hot
