-- `first::first_call` meets its contract: the values are cleared, and the clauses are the formula's alone. Assumes nothing.
use native.Mathlib.Omega.{arith}
use lib.ListN.{length}
use Rattle.rules.proofs.ClauseLaws.{clauses_le}
use Rattle.formula.proofs.ClauseLaws.{length_starts}
use Rattle.search.proofs.WholeLaws.{call_blank, formula_clauses}
use Rattle.calls.proofs.CallLaws.{ends_same}
use Rattle.backbone.proofs.FirstLaws.{first_over}
use Rattle.backbone.proofs.first.first_call.Goals as goal

pub overflow_sub-total : goal.overflow_sub-total
overflow_sub-total c =
    omega (arith, length_starts c.requires)

pub overflow_cast-total : goal.overflow_cast-total
overflow_cast-total c =
    omega (arith, length_starts c.requires, clauses_le c.args.entries.now, c.requires.entries_most)

pub whole_call-requires : goal.whole_call-requires
whole_call-requires c =
    call_blank (length c.args.values.now) (c.fill.ensures.after (λ y e. e)) (first_over c.requires c.fill.auto.self)

pub returns : goal.returns
returns c =
    ends_same 0 (formula_clauses c.requires) (c.fill.ensures.after (λ y e. e)) c.whole_call.ensures
