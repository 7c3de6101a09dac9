-- `board::chain::put_all` meets its contract. The invariant of its loop: the parts of the first k codes are there. Assumes nothing.
use Rattle.board.proofs.FillLaws.{Filling}
use Rattle.board.proofs.chain.put_all.Given as goal

abbrev pub invariant-loop-k : goal.invariant-loop-k
invariant-loop-k l = Filling l.codes l.heads l.nexts l.owners l.initial.starts l.initial.holders l.at l.k l.starts l.holders
