-- `formula::unset::has_other_unset` meets its contract. Assumes nothing.
use Rattle.std.proofs.Common.{rules, tests, sym, ◌∙◌}
use Rattle.std.proofs.lemmas.Iterator.{YieldsList-from_slice}
use Rattle.std.proofs.lemmas.Iterator.Search.{any_from_yields_List}
use Rattle.std.proofs.lemmas.Iterator.Adapters.{serves_from_places}
use Rattle.formula.specs.Clauses.{is_other_unset}
use Rattle.formula.proofs.StateLaws.{any_is, asked_at}
use Rattle.formula.proofs.unset.has_other_unset.Goals as goal

pub any-requires-clause-callable : goal.any-requires-clause-callable
any-requires-clause-callable c =
    serves_from_places (YieldsList-from_slice c.args.clause.now cc) (λ x q k. search (rules, tests))
    (λ x k h e lfs p n ptrs fits u m ml ne m2 more. asked_at c.requires x.now k h e m)

pub returns : goal.returns
returns c =
    any_from_yields_List (is_other_unset c.args.values.now c.args.l.0) _ _ _ c.any.ensures.ran (YieldsList-from_slice c.args.clause.now cc)
    (λ x b q k. search (rules, tests))
    ∙ sym (any_is (is_other_unset c.args.values.now c.args.l.0) c.args.clause.now)
