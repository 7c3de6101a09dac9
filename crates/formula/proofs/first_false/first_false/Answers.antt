-- `formula::first_false::first_false` meets its contract. Assumes nothing.
use mathlib.Core.Path.{sym, ◌∙◌, ap}
use native.Mathlib.Omega.{arith}
use lib.ListN.{length}
use Rattle.rules.specs.Meaning.{has_true}
use Rattle.formula.specs.Formula.{first_false_of}
use Rattle.formula.proofs.ClauseLaws.{length_starts, Numbered, numbered}
use Rattle.formula.proofs.FalseLaws.{looked_next, looked_found, looked_done}
use Rattle.formula.proofs.first_false.first_false.Goals as goal

pub has_true-requires : goal.has_true-requires
has_true-requires c =
    let number : Numbered (length c.args.values.now) c.args.entries.now c.loop-k.k =
    numbered c.requires c.loop-k.k (omega arith) c.loop-k-test.true in
    rw c.clause.ensures number.up_to

pub returns-then-not-has_true : goal.returns-then-not-has_true
returns-then-not-has_true c =
    let number : Numbered (length c.args.values.now) c.args.entries.now c.loop-k.k =
    numbered c.requires c.loop-k.k (omega arith) c.loop-k-test.true in
    ap first_false_of
    (looked_found c.loop-k.k (omega arith) c.loop-k.invariant number.within
    (ap (has_true c.args.values.now) (number.is ∙ sym c.clause.ensures) ∙ sym c.has_true.ensures ∙ c.if-not-has_true.true))

pub loop-k-preserved : goal.loop-k-preserved
loop-k-preserved c =
    let number : Numbered (length c.args.values.now) c.args.entries.now c.loop-k.k =
    numbered c.requires c.loop-k.k (omega arith) c.loop-k-test.true in
    looked_next c.loop-k.k (omega arith) c.loop-k.invariant number.within
    (ap (has_true c.args.values.now) (number.is ∙ sym c.clause.ensures) ∙ sym c.has_true.ensures ∙ c.if-not-has_true.false)

pub returns : goal.returns
returns c =
    ap first_false_of (looked_done c.loop-k.invariant (omega (arith, c.loop-k-test.false, length_starts c.requires)))
