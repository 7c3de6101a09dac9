-- `claims::tree::node_at` meets its contract: no number, a split by its variable, an end by its clause. Assumes nothing.
use mathlib.Core.Path.{sym, ◌∙◌}
use Rattle.std.proofs.lemmas.Result.{err_from_is_err_and}
use Rattle.rules.specs.Meaning.{clauses}
use Rattle.claims.proofs.TreeLaws.{stop_node, split_node, split_fault, end_node, end_fault}
use Rattle.claims.proofs.tree.node_at.Goals as goal

pub returns-in_err-spot : goal.returns-in_err-spot
returns-in_err-spot c =
    let p = err_from_is_err_and c.from_residual.result c.from_residual.ensures.1 in
    rw (p.1, p.2) (stop_node (clauses c.args.entries.now) c.args.values.now c.args.at c.in_err-spot.ensures)

pub returns-then-is_unset_at : goal.returns-then-is_unset_at
returns-then-is_unset_at c =
    split_node (clauses c.args.entries.now) c.args.values.now c.args.at _ c.in_ok-spot.ensures c.if-entry.true
    (sym c.is_unset_at.ensures ∙ c.if-is_unset_at.true)

pub returns-then-is_end : goal.returns-then-is_end
returns-then-is_end c =
    end_node (clauses c.args.entries.now) c.args.values.now c.args.at _ c.in_ok-spot.ensures c.if-entry.false
    (sym c.is_end.ensures ∙ c.if-is_end.true)

pub returns-else-is_unset_at : goal.returns-else-is_unset_at
returns-else-is_unset_at c =
    split_fault (clauses c.args.entries.now) c.args.values.now c.args.at _ c.in_ok-spot.ensures c.if-entry.true
    (sym c.is_unset_at.ensures ∙ c.if-is_unset_at.false)

pub returns-else-is_end : goal.returns-else-is_end
returns-else-is_end c =
    end_fault (clauses c.args.entries.now) c.args.values.now c.args.at _ c.in_ok-spot.ensures c.if-entry.false
    (sym c.is_end.ensures ∙ c.if-is_end.false)
