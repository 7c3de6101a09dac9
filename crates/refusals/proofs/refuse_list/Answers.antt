-- `refuse_list` meets its contract: each way out by the law of its rule. Assumes nothing.
use mathlib.Core.Path.{sym, ◌∙◌}
use Rattle.refusals.proofs.FoundLaws.{zero_over_found, above_found, list_found_lem}
use Rattle.refusals.proofs.refuse_list.Goals as goal

pub returns-in-Some : goal.returns-in-Some
returns-in-Some c =
    zero_over_found c.args.entries.now c.args.vars c.if-entries-gt-MAX_ENTRIES.false (sym c.is_ended.ensures ∙ c.if-not-is_ended.false)
    c.in-Some.over (sym c.nth_zero.ensures ∙ c.in-Some.is)

pub returns-in-Some-first_above : goal.returns-in-Some-first_above
returns-in-Some-first_above c =
    above_found c.args.entries.now c.args.vars c.if-entries-gt-MAX_ENTRIES.false (sym c.is_ended.ensures ∙ c.if-not-is_ended.false)
    (sym c.nth_zero.ensures ∙ c.in_default.is) c.in-Some-first_above.above (sym c.first_above.ensures ∙ c.in-Some-first_above.is)

pub returns : goal.returns
returns c =
    list_found_lem c.args.entries.now c.args.vars c.if-entries-gt-MAX_ENTRIES.false (sym c.is_ended.ensures ∙ c.if-not-is_ended.false)
    (sym c.nth_zero.ensures ∙ c.in_default.is) (sym c.first_above.ensures ∙ c.in_default-first_above.is)
