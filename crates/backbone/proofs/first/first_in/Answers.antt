-- `first::first_in` meets its contract: the values are cleared, the clauses are the formula's alone, and the board is kept. Assumes nothing.
use mathlib.Core.Path.{sym}
use native.Mathlib.Omega.{arith}
use lib.ListN.{length}
use Rattle.rules.proofs.ClauseLaws.{clauses_le}
use Rattle.formula.proofs.ClauseLaws.{length_starts}
use Rattle.search.proofs.WholeLaws.{call_blank, formula_clauses}
use Rattle.calls.proofs.CallLaws.{ends_same}
use Rattle.backbone.proofs.FirstLaws.{first_over, kept_len}
use Rattle.backbone.proofs.first.first_in.Goals as goal

pub overflow_sub-total : goal.overflow_sub-total
overflow_sub-total c =
    omega (arith, length_starts c.requires.0)

pub overflow_cast-total : goal.overflow_cast-total
overflow_cast-total c =
    omega (arith, length_starts c.requires.0, clauses_le c.args.entries.now, c.requires.0.entries_most)

pub call_in-requires : goal.call_in-requires
call_in-requires c =
    record {
      from = call_blank (length c.args.values.now) (c.fill.ensures.after (λ y e. e)) (first_over c.requires.0 c.fill.auto.self);
      kept = kept_len (sym c.fill.auto.self) c.requires.1;
    }

pub returns : goal.returns
returns c = (
  ends_same 0 (formula_clauses c.requires.0) (c.fill.ensures.after (λ y e. e)) c.call_in.ensures.done.calls,
  kept_len c.fill.auto.self c.call_in.ensures.done.kept,
)
