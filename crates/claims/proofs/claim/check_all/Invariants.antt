-- `claims::claim::check_all` meets its contract. The invariant of its loop: so many claims are left, and the values are as they were. Assumes
-- nothing.
use Prim.Native.Nat.{◌-◌}
use Rattle.rules.specs.Meaning.{clauses}
use Rattle.claims.proofs.ClaimLaws.{Checking}
use Rattle.claims.proofs.claim.check_all.Given as goal

abbrev pub invariant-loop : goal.invariant-loop
invariant-loop l = Checking (clauses l.entries) l.text l.at l.n l.initial.values l.next (l.n - l.counter) l.values
