-- `board::keys::change_all` meets its contract. The invariant of its loop: what is left of the list gives what all of it gives.
-- Assumes nothing.
use Rattle.board.proofs.HolderLaws.{Walking}
use Rattle.board.proofs.keys.change_all.Given as goal

abbrev pub invariant-loop-clause : goal.invariant-loop-clause
invariant-loop-clause l = Walking l.add l.less l.clauses l.initial.keys l.initial.hot l.clause-index l.keys l.hot
