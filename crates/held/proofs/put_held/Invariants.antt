-- `put_held` meets its contract. The invariant of its loop: what is stored, and what is still to store, are the entries of the held
-- literals. Assumes nothing.
use Rattle.held.proofs.StoredLaws.{Holding}
use Rattle.held.proofs.put_held.Given as goal

abbrev pub invariant-loop-literal : goal.invariant-loop-literal
invariant-loop-literal l = Holding l.held l.at l.initial.out l.literal-index l.next l.out
