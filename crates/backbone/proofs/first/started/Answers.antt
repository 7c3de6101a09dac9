-- `first::started` meets its contract: it is the definition, field by field. Assumes nothing.
use mathlib.Core.Path.{refl}
use Rattle.backbone.proofs.first.started.Goals as goal

pub returns : goal.returns
returns c =
    refl
