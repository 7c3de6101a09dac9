-- `formula::starts::find_starts` meets its contract. The invariant of its loop: the starts written so far, and those behind the
-- entries that are left, are the starts of the whole list. Assumes nothing.
use Rattle.formula.proofs.StartsLaws.{Scan}
use Rattle.formula.proofs.starts.find_starts.Given as goal

abbrev pub invariant-loop-i : goal.invariant-loop-i
invariant-loop-i l = Scan l.entries l.initial.starts l.starts l.clauses l.i
