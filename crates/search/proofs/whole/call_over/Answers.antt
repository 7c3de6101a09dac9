-- `search::whole::call_over` meets its contract: what the board shows is taken back, it shows the values and has the constraint, the call
-- goes over it, and its values are copied. Assumes nothing.
use Rattle.search.proofs.WholeLaws.{call_renews, call_goes}
use Rattle.search.proofs.whole.call_over.Goals as goal

pub renew-requires : goal.renew-requires
renew-requires c =
    call_renews c.requires c.undo.ensures.done c.show.ensures.done

pub go_on-end-requires : goal.go_on-end-requires
go_on-end-requires c =
    rw (c.renew.ensures.values, c.renew.ensures.trail)
    (call_goes c.requires c.undo.ensures.done c.show.ensures.done c.renew.ensures.done)
