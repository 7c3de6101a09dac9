-- `board::round::round` meets its contract. Assumes nothing.
use mathlib.Core.Path.{sym, ◌∙◌}
use Prim.Native.Nat.{◌<◌}
use native.Mathlib.Omega.{arith}
use lib.ListN.{length}
use Rattle.board.proofs.VisitLaws.{visiting_over, passed_le, hot_in_lem, hot_up_to, visiting_false, settable_unit}
use Rattle.board.proofs.VisitLaws.{visiting_unit, visiting_some, visiting_done}
use Rattle.board.proofs.SameLaws.{same_then}
use Rattle.board.proofs.round.round.Goals as goal

pub next_hot-at-requires : goal.next_hot-at-requires
next_hot-at-requires c = (
  omega (arith, passed_le c.before.before.requires c.loop-n.invariant.0),
  c.loop-n.invariant.0.shows.hot_are,
)

pub returns-then-total-at : goal.returns-then-total-at
returns-then-total-at c =
    let w = c.loop-n.invariant in
    record {
      done = record {
        round_is = visiting_over c.before.before.requires c.loop-n.invariant.0
            c.next_hot-at.ensures c.if-total-at.true;
        shows = w.0.shows;
        leads = w.0.leads;
      };
      same = w.1;
    }

pub bounds-board-at : goal.bounds-board-at
bounds-board-at c =
    let in_keys : c.next_hot-at.result < length c.loop-n.board.keys.now =
    hot_in_lem c.before.before.requires c.loop-n.invariant.0 c.next_hot-at.ensures c.if-total-at.false in
    in_keys

pub returns-then-board-at-eq0 : goal.returns-then-board-at-eq0
returns-then-board-at-eq0 c =
    let w = c.loop-n.invariant in
    record {
      done = record {
        round_is = visiting_false c.before.before.requires c.loop-n.invariant.0
            c.next_hot-at.ensures c.if-total-at.false c.if-board-at-eq0.true;
        shows = w.0.shows;
        leads = w.0.leads;
      };
      same = w.1;
    }

pub first_unset-requires : goal.first_unset-requires
first_unset-requires c =
    hot_up_to c.before.before.before.requires c.loop-n.invariant.0 c.next_hot-at.ensures
    c.if-total-at.false c.clause-clause.ensures

pub set_literal-requires : goal.set_literal-requires
set_literal-requires c =
    record {
      F = _;
      can = settable_unit c.before.before.before.requires c.loop-n.invariant.0 c.next_hot-at.ensures
          c.if-total-at.false c.clause-clause.ensures c.if-board-at-eq0.false
          c.in-Some.l (sym c.first_unset.ensures ∙ c.in-Some.is);
    }

pub loop-n-preserved-in-Some : goal.loop-n-preserved-in-Some
loop-n-preserved-in-Some c = (
  visiting_unit c.before.before.before.requires c.loop-n.invariant.0 c.next_hot-at.ensures
      c.if-total-at.false c.clause-clause.ensures c.if-board-at-eq0.false
      c.in-Some.l (sym c.first_unset.ensures ∙ c.in-Some.is)
      c.set_literal.ensures.done,
  same_then c.loop-n.invariant.1 c.set_literal.ensures.same,
)

pub loop-n-preserved : goal.loop-n-preserved
loop-n-preserved c =
    absurd (visiting_some c.before.before.before.requires c.loop-n.invariant.0 c.next_hot-at.ensures
    c.if-total-at.false c.clause-clause.ensures c.if-board-at-eq0.false
    (sym c.first_unset.ensures ∙ c.in_default.is))

pub returns : goal.returns
returns c =
    let w = c.loop-n.invariant in
    record {
      done = record {
        round_is = visiting_done c.requires c.loop-n.invariant.0
            c.loop-n-test.false;
        shows = w.0.shows;
        leads = w.0.leads;
      };
      same = w.1;
    }
