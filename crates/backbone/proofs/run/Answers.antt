-- `run` meets its contract: what is refused writes nothing; what is accepted writes the fronts of the buffers. Assumes nothing.
use mathlib.Core.Path.{sym, ◌∙◌}
use Rattle.rules.specs.Answer.{given}
use Rattle.backbone.specs.Lent.{lent}
use Rattle.backbone.proofs.ListingLaws.{front_len}
use Rattle.backbone.proofs.RunLaws.{checked_is, not_refused, accepted, entries_most, is-formula, clauses_most, records_lent, hints_len, log_len, allowed}
use Rattle.backbone.proofs.RunLaws.{runs_refused, runs_accepted}
use Rattle.backbone.proofs.run.Goals as goal

pub slice_bounds-first-end : goal.slice_bounds-first-end
slice_bounds-first-end c =
    let g = given c.args.entries.now c.args.vars c.args.held.now c.args.budget c.args.chunk_limit (lent c.args.buffers.now) in
    let said = not_refused g c.out_of_limits-bad_limits.ensures c.too_short-short.ensures c.refuse-checked.ensures c.in-Ok.is in
    (accepted g said).listed.lent.in_limits.vars_fit

pub slice_bounds-held_run-end : goal.slice_bounds-held_run-end
slice_bounds-held_run-end c =
    let g = given c.args.entries.now c.args.vars c.args.held.now c.args.budget c.args.chunk_limit (lent c.args.buffers.now) in
    let said = not_refused g c.out_of_limits-bad_limits.ensures c.too_short-short.ensures c.refuse-checked.ensures c.in-Ok.is in
    front_len _ _ (accepted g said).listed.lent.in_limits.vars_fit

pub slice_bounds-held_run-end-in-Ok : goal.slice_bounds-held_run-end-in-Ok
slice_bounds-held_run-end-in-Ok c =
    let g = given c.args.entries.now c.args.vars c.args.held.now c.args.budget c.args.chunk_limit (lent c.args.buffers.now) in
    let said = not_refused g c.out_of_limits-bad_limits.ensures c.too_short-short.ensures c.refuse-checked.ensures c.in-Ok.is in
    (accepted g said).listed.lent.status_fits

pub slice_bounds-held_run-end-in-Ok-2 : goal.slice_bounds-held_run-end-in-Ok-2
slice_bounds-held_run-end-in-Ok-2 c =
    let g = given c.args.entries.now c.args.vars c.args.held.now c.args.budget c.args.chunk_limit (lent c.args.buffers.now) in
    let said = not_refused g c.out_of_limits-bad_limits.ensures c.too_short-short.ensures c.refuse-checked.ensures c.in-Ok.is in
    front_len _ _ (accepted g said).listed.lent.status_fits

pub slice_bounds-held_run-end-in-Ok-3 : goal.slice_bounds-held_run-end-in-Ok-3
slice_bounds-held_run-end-in-Ok-3 c =
    let g = given c.args.entries.now c.args.vars c.args.held.now c.args.budget c.args.chunk_limit (lent c.args.buffers.now) in
    let said = not_refused g c.out_of_limits-bad_limits.ensures c.too_short-short.ensures c.refuse-checked.ensures c.in-Ok.is in
    (accepted g said).listed.lent.calls_fit

pub slice_bounds-held_run-end-in-Ok-4 : goal.slice_bounds-held_run-end-in-Ok-4
slice_bounds-held_run-end-in-Ok-4 c =
    let g = given c.args.entries.now c.args.vars c.args.held.now c.args.budget c.args.chunk_limit (lent c.args.buffers.now) in
    let said = not_refused g c.out_of_limits-bad_limits.ensures c.too_short-short.ensures c.refuse-checked.ensures c.in-Ok.is in
    front_len _ _ (accepted g said).listed.lent.calls_fit

pub slice_bounds-held_run-end-in-Ok-5 : goal.slice_bounds-held_run-end-in-Ok-5
slice_bounds-held_run-end-in-Ok-5 c =
    let g = given c.args.entries.now c.args.vars c.args.held.now c.args.budget c.args.chunk_limit (lent c.args.buffers.now) in
    let said = not_refused g c.out_of_limits-bad_limits.ensures c.too_short-short.ensures c.refuse-checked.ensures c.in-Ok.is in
    (accepted g said).listed.lent.ways_fit

pub slice_bounds-held_run-end-in-Ok-6 : goal.slice_bounds-held_run-end-in-Ok-6
slice_bounds-held_run-end-in-Ok-6 c =
    let g = given c.args.entries.now c.args.vars c.args.held.now c.args.budget c.args.chunk_limit (lent c.args.buffers.now) in
    let said = not_refused g c.out_of_limits-bad_limits.ensures c.too_short-short.ensures c.refuse-checked.ensures c.in-Ok.is in
    front_len _ _ (accepted g said).listed.lent.ways_fit

pub slice_bounds-held_run-end-in-Ok-7 : goal.slice_bounds-held_run-end-in-Ok-7
slice_bounds-held_run-end-in-Ok-7 c =
    let g = given c.args.entries.now c.args.vars c.args.held.now c.args.budget c.args.chunk_limit (lent c.args.buffers.now) in
    let said = not_refused g c.out_of_limits-bad_limits.ensures c.too_short-short.ensures c.refuse-checked.ensures c.in-Ok.is in
    (accepted g said).listed.lent.hints_fit

pub slice_bounds-held_run-end-in-Ok-8 : goal.slice_bounds-held_run-end-in-Ok-8
slice_bounds-held_run-end-in-Ok-8 c =
    let g = given c.args.entries.now c.args.vars c.args.held.now c.args.budget c.args.chunk_limit (lent c.args.buffers.now) in
    let said = not_refused g c.out_of_limits-bad_limits.ensures c.too_short-short.ensures c.refuse-checked.ensures c.in-Ok.is in
    front_len _ _ (accepted g said).listed.lent.hints_fit

pub slice_bounds-held_run-end-in-Ok-9 : goal.slice_bounds-held_run-end-in-Ok-9
slice_bounds-held_run-end-in-Ok-9 c =
    let g = given c.args.entries.now c.args.vars c.args.held.now c.args.budget c.args.chunk_limit (lent c.args.buffers.now) in
    let said = not_refused g c.out_of_limits-bad_limits.ensures c.too_short-short.ensures c.refuse-checked.ensures c.in-Ok.is in
    (accepted g said).listed.lent.log_fits

pub slice_bounds-held_run-end-in-Ok-10 : goal.slice_bounds-held_run-end-in-Ok-10
slice_bounds-held_run-end-in-Ok-10 c =
    let g = given c.args.entries.now c.args.vars c.args.held.now c.args.budget c.args.chunk_limit (lent c.args.buffers.now) in
    let said = not_refused g c.out_of_limits-bad_limits.ensures c.too_short-short.ensures c.refuse-checked.ensures c.in-Ok.is in
    front_len _ _ (accepted g said).listed.lent.log_fits

pub held_run-requires : goal.held_run-requires
held_run-requires c =
    let g = given c.args.entries.now c.args.vars c.args.held.now c.args.budget c.args.chunk_limit (lent c.args.buffers.now) in
    let said = not_refused g c.out_of_limits-bad_limits.ensures c.too_short-short.ensures c.refuse-checked.ensures c.in-Ok.is in
    let lent = (accepted g said).listed.lent in
    record {
      formula = is-formula g said;
      entries_most = entries_most g said;
      clauses_most = clauses_most g said;
      first_len = sym (front_len _ _ lent.in_limits.vars_fit) ∙ front_len _ _ lent.status_fits;
      lent = records_lent g said;
      hints_len = hints_len g said;
      log_len = log_len g said;
      allowed = allowed g said;
    }

pub returns-in-Err-clause-runs : goal.returns-in-Err-clause-runs
returns-in-Err-clause-runs c =
    let g = given c.args.entries.now c.args.vars c.args.held.now c.args.budget c.args.chunk_limit (lent c.args.buffers.now) in
    let checked = checked_is g c.out_of_limits-bad_limits.ensures c.too_short-short.ensures c.refuse-checked.ensures in
    runs_refused g (sym c.in-Err.is ∙ checked)

pub returns-in-Ok-clause-runs : goal.returns-in-Ok-clause-runs
returns-in-Ok-clause-runs c =
    let g = given c.args.entries.now c.args.vars c.args.held.now c.args.budget c.args.chunk_limit (lent c.args.buffers.now) in
    let said = not_refused g c.out_of_limits-bad_limits.ensures c.too_short-short.ensures c.refuse-checked.ensures c.in-Ok.is in
    runs_accepted g said c.held_run.ensures
