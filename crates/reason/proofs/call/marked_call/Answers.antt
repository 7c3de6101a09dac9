-- `call::marked_call` meets its contract: what was put are the marked clauses. Assumes nothing.
use mathlib.Core.Path.{refl, ap}
use mathlib.Core.List.{List, [], ◌∷◌, ◌++◌}
use Rattle.rules.specs.Meaning.{Clause, negated}
use Rattle.reason.proofs.CallLaws.{ends_same, kept_len, over_kept, kept_clauses}
use Rattle.reason.proofs.call.marked_call.Goals as goal

pub slice_bounds-false_call-end : goal.slice_bounds-false_call-end
slice_bounds-false_call-end c =
    kept_len c.requires c.put_marked-n.ensures c.put_marked-n.auto.out

pub false_call-requires : goal.false_call-requires
false_call-requires c =
    over_kept c.requires c.put_marked-n.ensures c.put_marked-n.auto.out

pub returns : goal.returns
returns c =
    ends_same c.args.asking.meter.spent
    (ap (λ (F : List Clause). F ++ (negated c.args.asking.literal.0 ∷ []) ∷ [])
    (kept_clauses c.requires c.put_marked-n.ensures c.put_marked-n.auto.out))
    refl c.false_call.ensures
