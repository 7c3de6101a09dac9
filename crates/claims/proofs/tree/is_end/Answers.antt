-- `claims::tree::is_end` meets its contract: 0 and numbers above the last clause name none; any other names its clause. Assumes nothing.
use mathlib.Core.Path.{sym, ◌∙◌, ap}
use mathlib.Core.List.{[]}
use Prim.Native.Nat.{◌≤◌}
use native.Mathlib.Omega.{arith}
use lib.ListN.{length}
use Rattle.rules.specs.Lists.{all}
use Rattle.rules.specs.Meaning.{clauses}
use Rattle.texts.specs.Claims.{is_false}
use Rattle.formula.proofs.ClauseLaws.{clause_at_formula, length_starts}
use Rattle.claims.proofs.TreeLaws.{end_above, end_named, up_to_number}
use Rattle.claims.proofs.tree.is_end.Goals as goal

pub returns-then-starts-n : goal.returns-then-starts-n
returns-then-starts-n c =
    sym (end_above (clauses c.args.entries.now) c.args.values.now c.args.n (omega (arith, c.if-starts-n.true, length_starts c.requires)))

pub clause_at-clause-requires : goal.clause_at-clause-requires
clause_at-clause-requires c =
    let some : 1 ≤ c.args.n = omega (arith, c.if-n-eq0.false) in
    let most : c.args.n ≤ length (clauses c.args.entries.now) = omega (arith, c.if-starts-n.false, length_starts c.requires) in
    record { starts_are = c.requires.starts_are; some = some; most = omega (arith, most) }

pub is_all_false-requires : goal.is_all_false-requires
is_all_false-requires c =
    let some : 1 ≤ c.args.n = omega (arith, c.if-n-eq0.false) in
    let most : c.args.n ≤ length (clauses c.args.entries.now) = omega (arith, c.if-starts-n.false, length_starts c.requires) in
    rw c.clause_at-clause.ensures
    (up_to_number (length c.args.values.now) c.args.entries.now c.args.n c.requires.up_to some most)

pub returns : goal.returns
returns c =
    let some : 1 ≤ c.args.n = omega (arith, c.if-n-eq0.false) in
    let most : c.args.n ≤ length (clauses c.args.entries.now) = omega (arith, c.if-starts-n.false, length_starts c.requires) in
    let F = clauses c.args.entries.now in
    c.is_all_false.ensures ∙
    ap (all (is_false c.args.values.now))
    (c.clause_at-clause.ensures ∙ sym (clause_at_formula c.args.entries.now [] c.args.n some most)) ∙
    sym (end_named F c.args.values.now c.args.n some most)
