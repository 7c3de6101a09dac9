-- `again::model_of_call` meets its contract: call 1 left the first model, and another call is made again from what the run left.
-- Assumes nothing.
use mathlib.Core.Path.{refl, sym, ◌∙◌}
use Prim.Native.Nat.{◌<◌}
use native.Mathlib.Omega.{arith}
use borrow.Author.Rules.{rules}
use Rattle.witness.proofs.AgainLaws.{copied_values, calls_len, first_len, call_first, again_at, tries_over, again_over, again_model}
use Rattle.witness.proofs.again.model_of_call.Goals as goal

pub copy_first-requires : goal.copy_first-requires
copy_first-requires c =
    (omega (arith, first_len c.requires, c.requires.values_len), omega arith)

pub returns-then-call-lt2 : goal.returns-then-call-lt2
returns-then-call-lt2 c =
    call_first c.requires c.if-call-lt2.true
    (copied_values c.args.first.now c.args.values.now (first_len c.requires ∙ sym c.requires.values_len) c.copy_first.ensures)

pub keep_before-requires : goal.keep_before-requires
keep_before-requires c =
    calls_len c.requires

pub bounds-log-call : goal.bounds-log-call
bounds-log-call c =
    again_at c.requires c.if-call-lt2.false

pub tries_of-requires : goal.tries_of-requires
tries_of-requires c =
    let fits : c.args.limits.budget < 4294967296 = search rules in
    tries_over c.requires c.if-call-lt2.false fits

pub call_again-requires : goal.call_again-requires
call_again-requires c =
    again_over c.requires c.if-call-lt2.false c.keep_before.ensures refl

pub returns : goal.returns
returns c =
    again_model c.requires c.if-call-lt2.false c.keep_before.ensures refl c.tries_of.ensures c.call_again.ensures
