-- `formula::unset::first_unset` meets its contract. Assumes nothing.
use mathlib.Core.Path.{◌≡◌, sym, ◌∙◌}
use lib.IntN.{pos}
use lib.ListN.{get_or}
use borrow.Author.Rules.{rules}
use Rattle.rules.specs.Meaning.{is_unset}
use Rattle.rules.proofs.ListLaws.{in_get_d}
use Rattle.rules.proofs.BitLaws.{to_z-of_z_at}
use Rattle.formula.proofs.SignedLaws.{of_literal}
use Rattle.formula.proofs.StateLaws.{first_here, first_none}
use Rattle.formula.proofs.unset.first_unset.Goals as goal

pub is_unset-requires : goal.is_unset-requires
is_unset-requires c =
    rw (to_z-of_z_at (get_or c.args.clause.now c.loop-entry.entry-index (pos 0)) (record { sfits = search rules }))
    (c.requires.each _ (in_get_d c.args.clause.now c.loop-entry.entry-index (pos 0) c.loop-entry-test.true))

pub returns-then-is_unset : goal.returns-then-is_unset
returns-then-is_unset c =
    let unset_is : is_unset c.args.values.now
    (get_or c.args.clause.now c.loop-entry.entry-index (pos 0)) ≡ c.is_unset.result =
    let args = c.args in
    of_literal (is_unset args.values.now) (get_or args.clause.now c.loop-entry.entry-index (pos 0)) (record { sfits = search rules })
    c.is_unset.ensures in
    rw (to_z-of_z_at (get_or c.args.clause.now c.loop-entry.entry-index (pos 0)) (record { sfits = search rules }))
    (sym (first_here (is_unset c.args.values.now) c.args.clause.now c.loop-entry.entry-index c.loop-entry.invariant
    c.loop-entry-test.true (unset_is ∙ c.if-is_unset.true)))

pub returns : goal.returns
returns c =
    sym (first_none (is_unset c.args.values.now) c.args.clause.now c.loop-entry.entry-index c.loop-entry.invariant c.loop-entry-test.false)
