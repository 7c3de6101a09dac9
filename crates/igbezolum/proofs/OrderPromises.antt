-- What a caller in C or Rust gets whose list is sorted in another way, from the contracts alone and in its numbers.
--
--   any_order         igb_run: the same rules, with the same literals held: the same numbers, statuses, calls, ways and log
--   setup_any_order   igb_setup: the same numbers and values
--   witness_any_order igb_witness: the same numbers and the same two models
--
-- Assumes nothing.
use mathlib.Core.Path.{◌≡◌, sym, ◌∙◌, ap}
use mathlib.Core.List.{List}
use Prim.Native.Nat.{ℕ}
use lib.IntN.{ℤ}
use lib.ListN.{take}
use Rattle.rules.specs.Meaning.{clauses}
use Rattle.rules.specs.Run.{run}
use Rattle.rules.specs.Answer.{Buffers, given}
use Rattle.rules.specs.RunRefusals.{Accepted}
use Rattle.rules.specs.Setup.{setup_given}
use Rattle.rules.specs.Witness.{FreeIn, asked, asked_task, lent_for}
use Rattle.rules.specs.Order.{SameRules, SameHeld, SameTable}
use Rattle.rules.proofs.Theorems as theorems
use Rattle.backbone.proofs.OrderPromises as sorted
use Rattle.igbezolum.specs.declared.IgbReport.{IgbReport}
use Rattle.igbezolum.specs.Linked.{report_numbers, RunsIn, SetsUpIn, WitnessesIn}
use Rattle.igbezolum.proofs.Promises.{Answered, runs_back, answered}
use Rattle.igbezolum.proofs.HeldPromises.{sets_up_back, setup_answered}
use Rattle.igbezolum.proofs.WitnessPromises.{witnesses_back}

-- Two lists with the same set of clauses, each read as a set of literals, and two lists that hold the same literals, both answered with 0, 20 or 21
-- under one V, budget and chunk limit: all six numbers are the same, and so is what stands in the buffers but for the hints.
pub any_order : {es ds : List ℤ} {vars : ℕ} {held other : List ℤ} {budget limit : ℕ} {lent lent' after after' : Buffers} {n n' : IgbReport}
    → RunsIn (given es vars held budget limit lent) n after → RunsIn (given ds vars other budget limit lent') n' after'
    → Answered n → Answered n' → SameRules (clauses es) (clauses ds) → SameHeld held other → (n ≡ n') × SameTable vars after after'
any_order w v a b s h =
    let (r, t) = sorted.any_order (runs_back w) (runs_back v) ((answered w).0 a) ((answered v).0 b) s h in
    let same = sym (runs_back w).result_is ∙ r ∙ (runs_back v).result_is in
    (w.result_is ∙ ap report_numbers same ∙ sym v.result_is, t)

-- The same of a setup: all six numbers and the values.
pub setup_any_order : {es ds : List ℤ} {vars : ℕ} {held other : List ℤ} {budget : ℕ} {lent lent' after after' : List ℕ} {n n' : IgbReport}
    → SetsUpIn (setup_given es vars held budget lent) n after → SetsUpIn (setup_given ds vars other budget lent') n' after'
    → Answered n → Answered n' → SameRules (clauses es) (clauses ds) → SameHeld held other → (n ≡ n') × (take vars after ≡ take vars after')
setup_any_order w v a b s h =
    let (r, t) = theorems.setups_any_order (sets_up_back w) (sets_up_back v) ((setup_answered w).0 a) ((setup_answered v).0 b) s h in
    let same = sym (sets_up_back w).result_is ∙ r ∙ (sets_up_back v).result_is in
    (w.result_is ∙ ap report_numbers same ∙ sym v.result_is, t)

-- The same of the witness of a variable that is free in the run of the first list: all six numbers, and both models.
pub witness_any_order : {es ds : List ℤ} {vars : ℕ} {held other : List ℤ} {budget limit variable : ℕ}
    {x x' y y' first first' witness witness' : List ℤ} {n n' : IgbReport}
    → WitnessesIn (asked es vars held budget limit variable x y) n first witness
    → WitnessesIn (asked ds vars other budget limit variable x' y') n' first' witness'
    → Accepted (lent_for (asked es vars held budget limit variable x y)) → Accepted (lent_for (asked ds vars other budget limit variable x' y'))
    → SameRules (clauses es) (clauses ds) → SameHeld held other
    → FreeIn vars (run (asked_task (asked es vars held budget limit variable x y))).progress variable
    → (n ≡ n') × (take vars first ≡ take vars first') × (take vars witness ≡ take vars witness')
witness_any_order w v a b s h f =
    let (r, x, y) = theorems.witnesses_any_order (witnesses_back w) (witnesses_back v) a b s h f in
    let same = sym (witnesses_back w).result_is ∙ r ∙ (witnesses_back v).result_is in
    (w.result_is ∙ ap report_numbers same ∙ sym v.result_is, x, y)
