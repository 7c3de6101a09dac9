-- `groups::read_body` meets its contract: the sizes, and the rest behind them. Assumes nothing.
use Rattle.groups.proofs.ReadLaws.{stores_of, sizes_counted, sizes_judged, sizes_stored}
use Rattle.groups.specs.Steps.{Sizing}
use Rattle.groups.proofs.read_body.Goals as goal

pub returns-in-Ok : goal.returns-in-Ok
returns-in-Ok c =
    let sized : let a = c.args in Sizing a.text.now a.at a.groups a.sizes.now a.groups c.in-Ok.to c.in-Ok.vars c.read_sizes.new.sizes =
    sizes_counted c.read_sizes.ensures c.in-Ok.to c.in-Ok.vars c.in-Ok.is in
    let z = sized in
    (stores_of (sizes_judged z c.requires.2 c.requires.0.sizes_room) c.read_rest.ensures, sizes_stored z c.requires.2 c.requires.0.sizes_room)
