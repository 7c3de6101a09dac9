-- `groups::sizes::read_sizes` meets its contract. Assumes nothing.
use native.Mathlib.Omega.{arith}
use Rattle.std.proofs.lemmas.Result.{err_from_is_err_and}
use Rattle.groups.proofs.SizesLaws.{sizing_size, sizing_step, sizing_refused}
use Rattle.groups.proofs.sizes.read_sizes.Goals as goal

pub returns-in_err-to : goal.returns-in_err-to
returns-in_err-to c =
    let l = c.loop-i in
    let p = err_from_is_err_and c.from_residual.result c.from_residual.ensures.1 in
    rw (p.1, p.2)
    (record {
      judges = sizing_refused l.invariant c.read_number.ensures c.loop-i-test.true c.in_err-to.field-0.0 c.in_err-to.was;
      rest_is = l.invariant.rest_is;
    })

pub overflow_cast-sizes : goal.overflow_cast-sizes
overflow_cast-sizes c =
    let r = sizing_size c.loop-i.invariant c.read_number.ensures c.loop-i-test.true c.in_ok-to.to c.in_ok-to.n c.in_ok-to.was in
    record { fits = omega (arith, r.0) }

pub overflow_add-vars : goal.overflow_add-vars
overflow_add-vars c =
    let r = sizing_size c.loop-i.invariant c.read_number.ensures c.loop-i-test.true c.in_ok-to.to c.in_ok-to.n c.in_ok-to.was in
    record { fits = omega (arith, r.1) }

pub loop-i-preserved : goal.loop-i-preserved
loop-i-preserved c =
    sizing_step c.loop-i.invariant c.read_number.ensures c.loop-i-test.true c.in_ok-to.to c.in_ok-to.n c.in_ok-to.was
    (omega (arith, c.loop-i-test.true, c.loop-i.invariant.len, c.requires)) c.requires.1
