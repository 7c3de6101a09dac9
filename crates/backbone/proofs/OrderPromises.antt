-- What a caller of `run` gets whose list is sorted in another way: everything here follows from the contract, `Runs`, alone. The proof is that of
-- rules/proofs/Theorems.
--
--   any_order         the same rules, with the same literals held: the same numbers, statuses, calls, ways and log
--
-- Assumes nothing.
use mathlib.Core.Path.{◌≡◌}
use mathlib.Core.List.{List}
use Prim.Native.Nat.{ℕ}
use lib.IntN.{ℤ}
use Rattle.rules.specs.declared.Report.{Report}
use Rattle.rules.specs.Meaning.{clauses}
use Rattle.rules.specs.Answer.{Buffers, given, Runs}
use Rattle.rules.specs.RunRefusals.{Accepted}
use Rattle.rules.specs.Order.{SameRules, SameHeld, SameTable}
use Rattle.rules.proofs.Theorems as theorems

-- Two lists with the same set of clauses, each read as a set of literals, and two lists that hold the same literals, both accepted, under one V,
-- budget and chunk limit: what is returned is the same, and so is what stands in the buffers but for the hints.
pub any_order : {es ds : List ℤ} {vars : ℕ} {held other : List ℤ} {budget limit : ℕ} {lent lent' after after' : Buffers} {r r' : Report}
    → Runs (given es vars held budget limit lent) r after → Runs (given ds vars other budget limit lent') r' after'
    → Accepted (given es vars held budget limit lent) → Accepted (given ds vars other budget limit lent')
    → SameRules (clauses es) (clauses ds) → SameHeld held other → (r ≡ r') × SameTable vars after after'
any_order = theorems.runs_any_order
