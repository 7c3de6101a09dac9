-- `groups::count::clauses_of` meets its contract. The invariant of its loop: the clauses counted and those of the groups that are left are
-- all. Assumes nothing.
use Rattle.groups.proofs.CountLaws.{Counting}
use Rattle.groups.proofs.count.clauses_of.Given as goal

abbrev pub invariant-loop-size : goal.invariant-loop-size
invariant-loop-size l = Counting l.sizes l.size-index l.clauses
