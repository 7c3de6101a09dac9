-- `held::first_bad_held` meets its contract: what `position` gives is the entry looked for. Assumes nothing.
use mathlib.Core.Path.{◌∙◌}
use Rattle.std.proofs.Common.{rules, tests}
use Rattle.std.proofs.lemmas.Iterator.{YieldsList-from_slice}
use Rattle.std.proofs.lemmas.Iterator.Search.{position_from_yields_List}
use Rattle.rules.specs.Held.{is_no_literal}
use Rattle.refusals.proofs.RefuseLaws.{position_within}
use Rattle.refusals.proofs.held.first_bad_held.Goals as goal

pub returns : goal.returns
returns c =
    position_from_yields_List (is_no_literal c.args.vars) _ _ c.position.result c.position.ensures.ran
    (YieldsList-from_slice c.args.held.now cc) (λ x b q k. search (rules, tests))
    ∙ position_within (is_no_literal c.args.vars) c.args.held.now
