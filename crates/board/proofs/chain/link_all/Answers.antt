-- `board::chain::link_all` meets its contract. Assumes nothing.
use mathlib.Core.Logic.{◌≢◌}
use mathlib.Core.Path.{◌≡◌, ◌∙◌, ap}
use Prim.Native.Nat.{◌-◌}
use native.Mathlib.Omega.{arith}
use lib.Dec.{lit<}
use lib.IntN.{pos}
use lib.ListN.{get_or}
use mir.Syntax.{w32}
use mir.Val.{of_z}
use Rattle.rules.proofs.BitLaws.{to_z-of_z_at}
use Rattle.rules.proofs.ClauseLaws.{clauses_le}
use Rattle.formula.proofs.SignedLaws.{of_z_inj}
use Rattle.rules.specs.Meaning.{LitUpTo}
use Rattle.rules.specs.Numbers.{max_vars}
use Rattle.board.proofs.LinkLaws.{linking_start, linking_zero, linking_literal, link_asks, literal_up_to}
use Rattle.board.proofs.LinkLaws.{zero_pos}
use Rattle.board.proofs.SameLaws.{chains_self, chains_then}
use Rattle.board.specs.Holders.{code_of}
use Rattle.board.proofs.chain.link_all.Goals as goal

pub loop-e-init : goal.loop-e-init
loop-e-init c =
    (linking_start c.requires, chains_self)

pub overflow_sub-c : goal.overflow_sub-c
overflow_sub-c c =
    let is_zero : get_or c.args.entries.now
    (c.loop-e.e - 1) (pos 0) ≡ pos 0 =
    of_z_inj c.entry-1.given (lit< tt) c.if-entry-eq0.true in
    zero_pos c.requires c.loop-e-test.true
    c.loop-e.invariant.0 is_zero

pub loop-e-preserved-then-entry-eq0 : goal.loop-e-preserved-then-entry-eq0
loop-e-preserved-then-entry-eq0 c =
    let is_zero : get_or c.args.entries.now
    (c.loop-e.e - 1) (pos 0) ≡ pos 0 =
    of_z_inj c.entry-1.given (lit< tt) c.if-entry-eq0.true in
    (linking_zero c.requires c.loop-e-test.true c.loop-e.invariant.0 is_zero, c.loop-e.invariant.1)

pub code_of-requires : goal.code_of-requires
code_of-requires c =
    let not_zero : get_or c.args.entries.now
    (c.loop-e.e - 1) (pos 0) ≢ pos 0 =
    λ e. c.if-entry-eq0.false (ap (of_z w32) e) in
    let up = literal_up_to c.requires c.loop-e-test.true
    c.loop-e.invariant.0 not_zero in
    let fit : LitUpTo max_vars
    (get_or c.args.entries.now (c.loop-e.e - 1)
    (pos 0)) = record {
      some = up.some;
      most =
          omega (arith, up.most, c.requires.vars_fit);
    } in
    rw (to_z-of_z_at _ (record { sfits = c.entry-1.given })) fit

pub overflow_cast-c : goal.overflow_cast-c
overflow_cast-c c =
    omega (arith, c.if-c-count.true, c.requires.count_is, clauses_le c.args.entries.now, c.requires.entries_fit)

pub link-m-requires : goal.link-m-requires
link-m-requires c =
    let not_zero : get_or c.args.entries.now
    (c.loop-e.e - 1) (pos 0) ≢ pos 0 =
    λ e. c.if-entry-eq0.false (ap (of_z w32) e) in
    let code_is : c.code_of.result ≡ code_of
    (get_or c.args.entries.now
    (c.loop-e.e - 1) (pos 0)) =
    c.code_of.ensures ∙
    ap code_of (to_z-of_z_at
    (get_or c.args.entries.now
    (c.loop-e.e - 1) (pos 0))
    (record { sfits = c.entry-1.given })) in
    rw code_is (link_asks c.requires c.loop-e-test.true
    c.loop-e.invariant.0 not_zero)

pub loop-e-preserved-then-c-count : goal.loop-e-preserved-then-c-count
loop-e-preserved-then-c-count c =
    let not_zero : get_or c.args.entries.now
    (c.loop-e.e - 1) (pos 0) ≢ pos 0 =
    λ e. c.if-entry-eq0.false (ap (of_z w32) e) in
    let code_is : c.code_of.result ≡ code_of
    (get_or c.args.entries.now
    (c.loop-e.e - 1) (pos 0)) =
    c.code_of.ensures ∙
    ap code_of (to_z-of_z_at
    (get_or c.args.entries.now
    (c.loop-e.e - 1) (pos 0))
    (record { sfits = c.entry-1.given })) in
    let same = c.link-m.ensures.same in (
      linking_literal c.requires c.loop-e-test.true c.loop-e.invariant.0 not_zero c.if-c-count.true
          (rw code_is at c.link-m.ensures.done) same.heads same.nexts same.owners,
      chains_then c.loop-e.invariant.1 same,
    )
