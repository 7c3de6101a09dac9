-- `first_above` meets its contract: what `position` gives is the entry looked for. Assumes nothing.
use mathlib.Core.Path.{◌∙◌}
use Rattle.std.proofs.Common.{rules, tests}
use Rattle.std.proofs.lemmas.Iterator.{YieldsList-from_slice}
use Rattle.std.proofs.lemmas.Iterator.Search.{position_from_yields_List}
use Rattle.rules.specs.Answer.{is_above}
use Rattle.refusals.proofs.RefuseLaws.{position_within}
use Rattle.refusals.proofs.first_above.Goals as goal

pub returns : goal.returns
returns c =
    position_from_yields_List (is_above c.args.vars) _ _ c.position.result c.position.ensures.ran
    (YieldsList-from_slice c.args.entries.now cc) (λ x b q k. search (rules, tests))
    ∙ position_within (is_above c.args.vars) c.args.entries.now
