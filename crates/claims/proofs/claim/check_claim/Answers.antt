-- `claims::claim::check_claim` meets its contract: its tree is checked under its negation, which is taken back. Assumes nothing.
use mathlib.Core.Path.{◌∙◌, ap}
use Prim.Native.Nat.{ℕ, ◌-◌}
use lib.ListN.{set}
use Rattle.std.proofs.lemmas.Result.{err_from_is_err_and}
use Rattle.rules.specs.Meaning.{Values, clauses}
use Rattle.claims.proofs.TreeLaws.{taken_back}
use Rattle.claims.proofs.ClaimLaws.{claim_within, claim_values, unset_blank, claim_stop, claim_tree}
use Rattle.claims.proofs.claim.check_claim.Goals as goal

pub returns-in_err-claim : goal.returns-in_err-claim
returns-in_err-claim c =
    let p = err_from_is_err_and c.from_residual.result c.from_residual.ensures.1 in
    rw (p.1, p.2) (claim_stop (clauses c.args.entries.now) c.args.values.now c.in_err-claim.ensures)

pub returns : goal.returns
returns c =
    let values : Values = c.args.values.now in
    let index : ℕ = c.in_ok-claim.claim.entry.number - 1 in
    let due = c.in_ok-claim.ensures in
    claim_tree (clauses c.args.entries.now) values due
    (ap (λ (b : ℕ). set values index b) c.byte_of.ensures ∙ claim_values values _ c.requires.unset due)
    c.check_tree-end.ensures.read
    (taken_back values c.check_tree-end.new.values index c.byte_of.result
    (unset_blank values index c.requires.unset (claim_within _ _ due)) c.check_tree-end.ensures.same)
