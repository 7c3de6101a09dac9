-- `search::values::lowest_from` meets its contract. Assumes nothing.
use Rattle.search.proofs.ValueLaws.{passed_from}
use Rattle.search.proofs.values.lowest_from.Goals as goal

pub loop-i-init : goal.loop-i-init
loop-i-init c =
    passed_from c.requires.1
