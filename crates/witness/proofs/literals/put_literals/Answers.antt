-- `literals::put_literals` meets its contract. Assumes nothing.
use mathlib.Core.Path.{◌≡◌, refl, sym, ◌∙◌, ap}
use Prim.Native.Nat.{ℕ, pred, ◌<◌, ◌^◌}
use native.Mathlib.Omega.{arith}
use native.Mathlib.Numerals.{add-one}
use native.Mathlib.Nat.{zero-add}
use lib.IntN.{pos}
use lib.ListN.{length, get_or, length-set}
use Rattle.rules.specs.Meaning.{var_of}
use Rattle.rules.specs.Run.{literal_at}
use Rattle.rules.proofs.BitLaws.{to_z-of_z_at}
use Rattle.rules.proofs.ListLaws.{get_d_default}
use Rattle.rules.proofs.WitnessTheorems.{length_literals, literal_at_lem}
use Rattle.buffers.proofs.FillLaws.{filled_start, filled_step}
use Rattle.formula.proofs.SignedLaws.{fits_of_var}
use Rattle.witness.proofs.AnswerLaws.{var_of-literal}
use Rattle.witness.proofs.literals.put_literals.Goals as goal

pub loop-i-init : goal.loop-i-init
loop-i-init c =
    (refl, filled_start _ _ (sym (length_literals 0 c.args.model.now ∙ c.requires.len)))

pub loop-i-preserved : goal.loop-i-preserved
loop-i-preserved c =
    let l = c.true_literal in
    let m = c.args.model.now in
    let i = c.loop-i.i in
    let inside : i < length m = omega (arith, c.loop-i.invariant.0, c.requires.len) in
    let e : l.result.0 ≡ literal_at i (get_or m i 0) = l.ensures ∙ ap (λ (n : ℕ). literal_at (pred n) (get_or m i 0)) (add-one i) in
    let small : var_of l.result.0 < 2 ^ 31 =
    rw e (omega (arith, var_of-literal i (get_or m i 0), c.loop-i.invariant.0, c.requires.vars_fit)) in
    rw (to_z-of_z_at l.result.0 (fits_of_var l.result.0 small)) (
      length-set c.loop-i.out i _ ∙ c.loop-i.invariant.0,
      filled_step (pos 0) _ c.loop-i.invariant.1 (omega (arith, c.loop-i.invariant.0))
          (literal_at_lem 0 m i (pos 0) inside ∙ ap (λ (n : ℕ). literal_at n (get_or m i 1)) (zero-add i) ∙
          ap (literal_at i) (get_d_default m i 1 0 inside) ∙ sym e),
    )
