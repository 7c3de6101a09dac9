-- `board::first::count_all` meets its contract. The invariant of its loop: the literals of the first k numbers are counted. The measure
-- is what is left. Assumes nothing.
use Rattle.board.proofs.FirstLaws.{Counting}
use Rattle.board.proofs.first.count_all.Given as goal

abbrev pub invariant-loop-k : goal.invariant-loop-k
invariant-loop-k l = Counting l.vars l.index.lists.now l.index.holders.now l.index.marks.now l.initial.keys l.initial.hot l.k l.keys l.hot
