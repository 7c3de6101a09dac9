-- `groups::clauses::read_clauses` meets its contract. Assumes nothing.
use native.Mathlib.Omega.{arith}
use Rattle.groups.proofs.ClauseLaws.{clausing_next, clausing_short, clausing_done}
use Rattle.groups.proofs.ClauseLaws.{complete_zero, complete_other, stepped}
use Rattle.groups.proofs.clauses.read_clauses.Goals as goal

pub returns-then-complete-clauses : goal.returns-then-complete-clauses
returns-then-complete-clauses c =
    let l = c.loop-to in
    record {
      judges = clausing_short l.invariant c.next_step.ensures (rw c.in_default.is at c.in_ok-to.was) c.if-complete-clauses.true;
      rest_is = l.invariant.rest_is;
    }

pub returns : goal.returns
returns c =
    let l = c.loop-to in
    record {
      judges = clausing_done l.invariant c.next_step.ensures (rw c.in_default.is at c.in_ok-to.was) (omega (arith, c.if-complete-clauses.false));
      rest_is = l.invariant.rest_is;
    }

pub value_of-requires : goal.value_of-requires
value_of-requires c =
    let facts = clausing_next c.loop-to.invariant c.next_step.ensures c.in-Some.to c.in-Some.e (rw c.in-Some.is at c.in_ok-to.was) in
    omega (arith, facts.0, c.requires)

pub overflow_add-complete : goal.overflow_add-complete
overflow_add-complete c =
    let facts = clausing_next c.loop-to.invariant c.next_step.ensures c.in-Some.to c.in-Some.e (rw c.in-Some.is at c.in_ok-to.was) in
    record { fits = omega (arith, facts.1, c.ranges.clauses) }

pub loop-to-smaller-then-e-eq0 : goal.loop-to-smaller-then-e-eq0
loop-to-smaller-then-e-eq0 c =
    let facts = clausing_next c.loop-to.invariant c.next_step.ensures c.in-Some.to c.in-Some.e (rw c.in-Some.is at c.in_ok-to.was) in
    omega (arith, facts.2, facts.3)

pub loop-to-preserved-then-e-eq0 : goal.loop-to-preserved-then-e-eq0
loop-to-preserved-then-e-eq0 c =
    stepped c.loop-to.invariant c.next_step.ensures c.in-Some.to c.in-Some.e (rw c.in-Some.is at c.in_ok-to.was)
    (omega (arith, c.loop-to.invariant.len, c.requires)) (omega (arith, c.requires)) c.value_of.ensures c.put_entry.ensures
    (complete_zero c.in-Some.e c.loop-to.complete c.if-e-eq0.true)

pub loop-to-smaller : goal.loop-to-smaller
loop-to-smaller c =
    let facts = clausing_next c.loop-to.invariant c.next_step.ensures c.in-Some.to c.in-Some.e (rw c.in-Some.is at c.in_ok-to.was) in
    omega (arith, facts.2, facts.3)

pub loop-to-preserved : goal.loop-to-preserved
loop-to-preserved c =
    stepped c.loop-to.invariant c.next_step.ensures c.in-Some.to c.in-Some.e (rw c.in-Some.is at c.in_ok-to.was)
    (omega (arith, c.loop-to.invariant.len, c.requires)) (omega (arith, c.requires)) c.value_of.ensures c.put_entry.ensures
    (complete_other c.in-Some.e c.loop-to.complete c.if-e-eq0.false)
