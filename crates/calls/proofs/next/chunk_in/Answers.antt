-- `next::chunk_in` meets its contract: the values are the forced ones, the clause after the last one is the constraint, and the board is
-- kept. Assumes nothing.
use mathlib.Core.Path.{refl, sym}
use native.Mathlib.Omega.{arith}
use lib.Seq.{length-take-le}
use Rattle.rules.proofs.ClauseLaws.{clauses_le}
use Rattle.formula.proofs.ClauseLaws.{length_starts}
use Rattle.calls.proofs.CallLaws.{chunk_few, chunk_asks, chunk_from, chunk_ends}
use Rattle.calls.proofs.next.chunk_in.Goals as goal

pub put_constraint-requires : goal.put_constraint-requires
put_constraint-requires c =
    chunk_asks c.requires.0 refl

pub overflow_cast-total : goal.overflow_cast-total
overflow_cast-total c =
    omega (arith, length_starts c.requires.0.formula, clauses_le c.args.entries.now, c.requires.0.formula.entries_most)

pub slice_bounds-literals-end : goal.slice_bounds-literals-end
slice_bounds-literals-end c =
    omega (arith, chunk_few c.requires.0, c.put_constraint.auto)

pub slice_bounds-view-end : goal.slice_bounds-view-end
slice_bounds-view-end c =
    sym (length-take-le c.args.chunk c.put_constraint.new.out (omega (arith, chunk_few c.requires.0, c.put_constraint.auto)))

pub call_in-requires : goal.call_in-requires
call_in-requires c =
    record {
      from = chunk_from c.requires.0 c.put_constraint.ensures c.fill_start.ensures;
      kept = rw c.fill_start.auto.values c.requires.1;
    }

pub returns : goal.returns
returns c =
    record {
      called = chunk_ends c.requires.0 c.put_constraint.ensures c.fill_start.ensures c.args.meter c.call_in.ensures.done.calls;
      kept = rw c.fill_start.auto.values at c.call_in.ensures.done.kept;
      same = c.call_in.ensures.same;
    }
