-- The goals of the cycle of calls {go_on, try_value} over the board. Each way out is a law of OnBoardLaws. Assumes nothing.
use mathlib.Core.Path.{sym, ◌∙◌}
use native.Mathlib.Omega.{arith}
use Rattle.search.proofs.CallLaws.{choice_none}
use Rattle.search.proofs.OnBoardLaws.{back_asks, went_clash, closed_few, closed_below, went_model}
use Rattle.search.proofs.OnBoardLaws.{turn_begins, turn_falls, turn_asks, turn_again, turn_went}
use Rattle.search.proofs.OnBoardLaws.{try_asks, tried_back}
use Rattle.board.proofs.SameLaws.{same_then}
use Rattle.search.proofs.call.+go_on_try_value.Goals as goal

pub go_on-take_back-requires : goal.go_on-take_back-requires
go_on-take_back-requires t c =
    back_asks c.args.meter c.requires c.close.ensures.done

pub go_on-returns-in-Clash : goal.go_on-returns-in-Clash
go_on-returns-in-Clash t c =
    record {
      done =
          went_clash c.args.meter c.requires c.close.ensures.done c.in-Clash.is c.take_back.ensures.done;
      same = same_then c.close.ensures.same c.take_back.ensures.same;
    }

pub go_on-lowest_on-requires : goal.go_on-lowest_on-requires
go_on-lowest_on-requires t c =
    (closed_few c.args.meter c.requires c.close.ensures.done c.in_default.is, closed_below c.args.meter c.requires c.close.ensures.done c.in_default.is)

pub go_on-returns-in_default-lowest_on : goal.go_on-returns-in_default-lowest_on
go_on-returns-in_default-lowest_on t c =
    record {
      done =
          went_model c.args.meter c.requires c.close.ensures.done c.in_default.is
          (choice_none c.close.new.board.values.now (sym c.lowest_on.ensures ∙ c.in_default-lowest_on.is));
      same = c.close.ensures.same;
    }

pub go_on-try_value-end-requires : goal.go_on-try_value-end-requires
go_on-try_value-end-requires t c = (
  omega (
    arith,
    c.decreases,
    turn_falls c.args.meter c.requires c.close.ensures.done c.in_default.is c.in-Some.v
        (sym c.lowest_on.ensures ∙ c.in-Some.is) c.loop-value.invariant.0,
  ),
  turn_begins c.args.meter c.requires c.close.ensures.done c.in_default.is c.in-Some.v
      (sym c.lowest_on.ensures ∙ c.in-Some.is) c.loop-value.invariant.0,
)

pub go_on-loop-value-preserved : goal.go_on-loop-value-preserved
go_on-loop-value-preserved t c = (
  turn_again c.args.meter c.requires c.close.ensures.done c.in_default.is c.in-Some.v
      (sym c.lowest_on.ensures ∙ c.in-Some.is) c.loop-value.invariant.0 c.try_value-end.ensures.done
      (sym c.goes_again.ensures ∙ c.if-goes_again.true),
  same_then c.loop-value.invariant.1 c.try_value-end.ensures.same,
)

pub go_on-take_back-requires-else-goes_again : goal.go_on-take_back-requires-else-goes_again
go_on-take_back-requires-else-goes_again t c =
    turn_asks c.args.meter c.requires c.close.ensures.done c.in_default.is c.in-Some.v
    (sym c.lowest_on.ensures ∙ c.in-Some.is) c.loop-value.invariant.0 c.try_value-end.ensures.done

pub go_on-returns-else-goes_again : goal.go_on-returns-else-goes_again
go_on-returns-else-goes_again t c =
    record {
      done =
          turn_went c.args.meter c.requires c.close.ensures.done c.in_default.is c.in-Some.v
          (sym c.lowest_on.ensures ∙ c.in-Some.is) c.loop-value.invariant.0 c.try_value-end.ensures.done
          (sym c.goes_again.ensures ∙ c.if-goes_again.false) c.take_back-else-goes_again.ensures.done;
      same =
          same_then c.close.ensures.same
          (same_then c.loop-value.invariant.1 (same_then c.try_value-end.ensures.same c.take_back-else-goes_again.ensures.same));
    }

pub try_value-take_back-requires : goal.try_value-take_back-requires
try_value-take_back-requires t c =
    let done = rw c.literal_of.ensures at c.set_literal.ensures.done in
    let given = sym c.ask_try.ensures ∙ c.in-Some.is in
    try_asks c.args.meter c.args.value c.requires done given c.go_on-end.ensures.done

pub try_value-returns : goal.try_value-returns
try_value-returns t c =
    let done = rw c.literal_of.ensures at c.set_literal.ensures.done in
    let given = sym c.ask_try.ensures ∙ c.in-Some.is in
    record {
      done =
          tried_back c.args.meter c.args.value c.requires done given c.go_on-end.ensures.done c.take_back.ensures.done;
      same = same_then c.set_literal.ensures.same (same_then c.go_on-end.ensures.same c.take_back.ensures.same);
    }
