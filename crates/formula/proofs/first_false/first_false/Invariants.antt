-- `formula::first_false::first_false` meets its contract. The invariant of its loop: the clauses so far have a true literal each.
-- Assumes nothing.
use Prim.Native.Nat.{◌-◌}
use Rattle.rules.specs.Meaning.{clauses}
use Rattle.formula.proofs.FalseLaws.{Looked}
use Rattle.formula.proofs.first_false.first_false.Given as goal

abbrev pub invariant-loop-k : goal.invariant-loop-k
invariant-loop-k l = Looked l.values (clauses l.entries) (l.k - 1)
