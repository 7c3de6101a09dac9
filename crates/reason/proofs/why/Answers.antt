-- `why` meets its contract: what is refused writes nothing; what is accepted writes the fronts of both buffers. Assumes nothing.
use mathlib.Core.Path.{sym, ◌∙◌}
use Prim.Native.Nat.{ℕ}
use lib.Seq.{length-take-le}
use Rattle.rules.specs.Why.{why_given}
use Rattle.reason.proofs.WhyLaws.{marks_fit, asks_of, explains_refused, explains_accepted}
use Rattle.reason.proofs.why.Goals as goal

pub returns-in-Err : goal.returns-in-Err
returns-in-Err c = explains_refused _ (sym c.in-Err.is ∙ c.refuse.ensures)

pub slice_bounds-with_room-end-2 : goal.slice_bounds-with_room-end-2
slice_bounds-with_room-end-2 c =
    let a = c.args in
    let given = why_given a.entries.now a.vars a.literal.0 a.budget a.marks.now a.values.now in
    sym (length-take-le {A = ℕ} 1024 a.marks.now (marks_fit given (sym c.in_default.is ∙ c.refuse.ensures)))

pub with_room-requires : goal.with_room-requires
with_room-requires c =
    let a = c.args in
    let given = why_given a.entries.now a.vars a.literal.0 a.budget a.marks.now a.values.now in
    asks_of given (sym c.in_default.is ∙ c.refuse.ensures)

pub returns : goal.returns
returns c = explains_accepted _ (sym c.in_default.is ∙ c.refuse.ensures) c.with_room.ensures
