-- `next::chunk_call` meets its contract: the values are the forced ones, and the clause after the last one is the constraint.
-- Assumes nothing.
use mathlib.Core.Path.{refl, sym}
use native.Mathlib.Omega.{arith}
use lib.Seq.{length-take-le}
use Rattle.rules.proofs.ClauseLaws.{clauses_le}
use Rattle.formula.proofs.ClauseLaws.{length_starts}
use Rattle.calls.proofs.CallLaws.{chunk_few, chunk_asks, chunk_from, chunk_ends}
use Rattle.calls.proofs.next.chunk_call.Goals as goal

pub put_constraint-requires : goal.put_constraint-requires
put_constraint-requires c =
    chunk_asks c.requires refl

pub overflow_cast-total : goal.overflow_cast-total
overflow_cast-total c =
    omega (arith, length_starts c.requires.formula, clauses_le c.args.entries.now, c.requires.formula.entries_most)

pub slice_bounds-literals-end : goal.slice_bounds-literals-end
slice_bounds-literals-end c =
    omega (arith, chunk_few c.requires, c.put_constraint.auto)

pub slice_bounds-whole_call-end : goal.slice_bounds-whole_call-end
slice_bounds-whole_call-end c =
    sym (length-take-le c.args.chunk c.put_constraint.new.out (omega (arith, chunk_few c.requires, c.put_constraint.auto)))

pub whole_call-requires : goal.whole_call-requires
whole_call-requires c =
    chunk_from c.requires c.put_constraint.ensures c.fill_start.ensures

pub returns : goal.returns
returns c =
    chunk_ends c.requires c.put_constraint.ensures c.fill_start.ensures c.args.meter c.whole_call.ensures
