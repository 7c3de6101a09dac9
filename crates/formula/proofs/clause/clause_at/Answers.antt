-- `formula::clause::clause_at` meets its contract: between a start and the next one, less the zero, stands the clause.
-- Assumes nothing.
use mathlib.Core.Path.{◌∙◌, ap}
use native.Mathlib.Omega.{arith}
use lib.ListN.{length}
use Rattle.formula.proofs.StartsLaws.{length-starts_of}
use Rattle.formula.proofs.ClauseLaws.{looked_in, looked_part, part_is, clause_at_formula, clause_at-constraint}
use Rattle.formula.proofs.clause.clause_at.Goals as goal

pub overflow_sub-to : goal.overflow_sub-to
overflow_sub-to c =
    omega (arith, (looked_part c.requires c.if-k-starts.true).spans)

pub slice_bounds-result-count : goal.slice_bounds-result-count
slice_bounds-result-count c =
    omega (arith, (looked_part c.requires c.if-k-starts.true).spans)

pub slice_bounds-result-start : goal.slice_bounds-result-start
slice_bounds-result-start c =
    omega (arith, (looked_part c.requires c.if-k-starts.true).spans)

pub slice_bounds-result-end : goal.slice_bounds-result-end
slice_bounds-result-end c =
    let here = looked_part c.requires c.if-k-starts.true in
    omega (arith, here.spans, here.within)

pub returns-then-k-starts : goal.returns-then-k-starts
returns-then-k-starts c =
    part_is (looked_part c.requires c.if-k-starts.true) ∙
    clause_at_formula c.args.entries.now c.args.constraint.now c.args.n.0 c.requires.some (looked_in c.requires c.if-k-starts.true)

pub returns-else-k-starts : goal.returns-else-k-starts
returns-else-k-starts c =
    clause_at-constraint c.args.entries.now c.args.constraint.now c.args.n.0
    (omega (arith, c.if-k-starts.false, c.requires.most, ap length c.requires.starts_are, length-starts_of c.args.entries.now))
