-- `claims::tree::is_all_false` meets its contract. Assumes nothing.
use Rattle.std.proofs.Common.{rules, tests, sym, ◌∙◌}
use Rattle.std.proofs.lemmas.Iterator.{YieldsList-from_slice}
use Rattle.std.proofs.lemmas.Iterator.Search.{all_from_yields_List}
use Rattle.std.proofs.lemmas.Iterator.Adapters.{serves_from_places}
use Rattle.texts.specs.Claims.{is_false}
use Rattle.formula.proofs.StateLaws.{asked_at}
use Rattle.claims.proofs.TreeLaws.{all_is}
use Rattle.claims.proofs.tree.is_all_false.Goals as goal

pub all-requires-clause-callable : goal.all-requires-clause-callable
all-requires-clause-callable c =
    serves_from_places (YieldsList-from_slice c.args.clause.now cc) (λ x q k. search (rules, tests))
    (λ x k h e lfs p n ptrs fits u m more. asked_at c.requires x.now k h e m)

pub returns : goal.returns
returns c =
    all_from_yields_List (is_false c.args.values.now) _ _ _ c.all.ensures.ran (YieldsList-from_slice c.args.clause.now cc) (λ x b q k. search (rules, tests))
    ∙ sym (all_is (is_false c.args.values.now) c.args.clause.now)
