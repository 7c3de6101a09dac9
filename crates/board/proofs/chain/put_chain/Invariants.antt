-- `board::chain::put_chain` meets its contract. The invariant of its loop: what is left of the chain. The measure is the head,
-- since cells point to lower ones. Assumes nothing.
use Rattle.board.proofs.PutLaws.{Putting}
use Rattle.board.proofs.chain.put_chain.Given as goal

abbrev pub invariant-loop-h : goal.invariant-loop-h
invariant-loop-h l = Putting l.owners l.nexts l.head l.at l.initial.holders l.h l.k l.holders

abbrev pub decreases-loop-h : goal.decreases-loop-h
decreases-loop-h l = l.h
