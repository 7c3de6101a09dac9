-- `first::held_run` meets its contract: the list that is made is the entries with the held literals behind them. Assumes nothing.
use mathlib.Core.Path.{sym, ◌∙◌, ap}
use lib.ListN.{length}
use Rattle.held.proofs.StoredLaws.{put_front}
use Rattle.backbone.proofs.first.held_run.Goals as goal

pub slice_bounds-accepted_run-end : goal.slice_bounds-accepted_run-end
slice_bounds-accepted_run-end c =
    c.put_list-n.ensures.count_is ∙ ap length (sym (put_front c.put_list-n.ensures))

pub accepted_run-requires : goal.accepted_run-requires
accepted_run-requires c =
    rw (put_front c.put_list-n.ensures) c.requires

pub returns : goal.returns
returns c =
    rw (put_front c.put_list-n.ensures) at c.accepted_run.ensures
