-- `others::count_others` meets its contract. The invariant of its loop: those before i are counted.
-- Assumes nothing.
use Rattle.rules.specs.Meaning.{clauses}
use Rattle.buffers.proofs.CountLaws.{Counting}
use Rattle.folded.specs.Folded.{is_other}
use Rattle.folded.proofs.others.count_others.Given as goal

abbrev pub invariant-loop-i : goal.invariant-loop-i
invariant-loop-i l = Counting (is_other l.values) (clauses l.entries) l.i l.others
