-- `formula::state::has_true` meets its contract. Assumes nothing.
use Rattle.std.proofs.Common.{rules, tests, sym, ◌∙◌}
use Rattle.std.proofs.lemmas.Iterator.{YieldsList-from_slice}
use Rattle.std.proofs.lemmas.Iterator.Search.{any_from_yields_List}
use Rattle.std.proofs.lemmas.Iterator.Adapters.{serves_from_places}
use Rattle.rules.specs.Meaning.{is_true}
use Rattle.formula.proofs.StateLaws.{any_is, asked_at}
use Rattle.formula.proofs.state.has_true.Goals as goal

pub any-requires-clause-callable : goal.any-requires-clause-callable
any-requires-clause-callable c =
    serves_from_places (YieldsList-from_slice c.args.clause.now cc) (λ x q k. search (rules, tests))
    (λ x k h e lfs p n ptrs fits u m more. asked_at c.requires x.now k h e m)

pub returns : goal.returns
returns c =
    any_from_yields_List (is_true c.args.values.now) _ _ _ c.any.ensures.ran (YieldsList-from_slice c.args.clause.now cc) (λ x b q k. search (rules, tests))
    ∙ sym (any_is (is_true c.args.values.now) c.args.clause.now)
