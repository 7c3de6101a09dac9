-- `constraint::put_if` meets its contract: by a constructor for each of its three ways. Assumes nothing.
use mathlib.Core.Path.{◌≡◌, ◌∙◌, ap}
use Prim.Native.Nat.{ℕ, pred, ◌<◌, ◌^◌}
use native.Mathlib.Omega.{arith}
use native.Mathlib.Numerals.{add-one}
use lib.ListN.{get_or}
use Rattle.rules.specs.Meaning.{var_of, negated}
use Rattle.rules.specs.Run.{literal_at}
use Rattle.rules.proofs.BitLaws.{to_z-of_z_at}
use Rattle.formula.proofs.SignedLaws.{fits_of_var}
use Rattle.steps.proofs.ConstraintLaws.{var_of_false}
use Rattle.steps.specs.Constraint.{candidate, full, settled}
use Rattle.steps.proofs.constraint.put_if.Goals as goal

pub returns-then-k-chunk : goal.returns-then-k-chunk
returns-then-k-chunk c =
    let l = c.false_literal-l in
    let i = c.args.i in
    let b = get_or c.args.first.now i 0 in
    let e : l.result.0 ≡ negated (literal_at i b) = l.ensures ∙ ap (λ (n : ℕ). negated (literal_at (pred n) b)) (add-one i) in
    let small : var_of l.result.0 < 2 ^ 31 = rw e (omega (arith, var_of_false i b, c.requires)) in
    rw (to_z-of_z_at l.result.0 (fits_of_var l.result.0 small), e)
    (candidate c.if-status-i-eq0.true c.if-k-chunk.true)

pub returns-else-k-chunk : goal.returns-else-k-chunk
returns-else-k-chunk c =
    full c.if-k-chunk.false

pub returns-else-status-i-eq0 : goal.returns-else-status-i-eq0
returns-else-status-i-eq0 c =
    settled c.if-status-i-eq0.false
