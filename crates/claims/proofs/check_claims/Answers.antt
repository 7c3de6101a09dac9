-- `claims::check_claims` meets its contract: what is refused of the formula, a text that is too long, the file. Assumes nothing.
use mathlib.Core.Path.{◌≡◌, sym, ◌∙◌}
use mathlib.Core.Bool.{false}
use mathlib.Core.List.{[]}
use lib.Dec.{ltb}
use Rattle.rules.specs.Lists.{first_of}
use Rattle.rules.specs.Numbers.{max_vars}
use Rattle.rules.specs.Answer.{taking_rules}
use Rattle.std.specs.Prelude.{Ok}
use Rattle.refusals.specs.Refuse.{found}
use Rattle.claims.proofs.FileLaws.{list_taken, checks_refused, checks_long, checks_file}
use Rattle.claims.proofs.check_claims.Goals as goal

pub returns-then-text-gt-MAX_TEXT : goal.returns-then-text-gt-MAX_TEXT
returns-then-text-gt-MAX_TEXT c =
    let checked : c.refuse-checked.result ≡ found (first_of (taking_rules (ltb max_vars c.args.vars) false c.args.entries.now c.args.vars [])) =
    c.refuse-checked.ensures in
    let said : Ok tt ≡ found (first_of (taking_rules (ltb max_vars c.args.vars) false c.args.entries.now c.args.vars [])) =
    sym c.in-Ok.is ∙ checked in
    checks_long c.args.entries.now c.args.vars c.args.text.now said c.if-text-gt-MAX_TEXT.true

pub with_starts-requires : goal.with_starts-requires
with_starts-requires c =
    let checked : c.refuse-checked.result ≡ found (first_of (taking_rules (ltb max_vars c.args.vars) false c.args.entries.now c.args.vars [])) =
    c.refuse-checked.ensures in
    let said : Ok tt ≡ found (first_of (taking_rules (ltb max_vars c.args.vars) false c.args.entries.now c.args.vars [])) =
    sym c.in-Ok.is ∙ checked in
    list_taken c.args.entries.now c.args.vars c.args.text.now said

pub returns-in-Err : goal.returns-in-Err
returns-in-Err c =
    let checked : c.refuse-checked.result ≡ found (first_of (taking_rules (ltb max_vars c.args.vars) false c.args.entries.now c.args.vars [])) =
    c.refuse-checked.ensures in
    checks_refused c.args.entries.now c.args.vars c.args.text.now (sym c.in-Err.is ∙ checked)

pub returns-else-text-gt-MAX_TEXT : goal.returns-else-text-gt-MAX_TEXT
returns-else-text-gt-MAX_TEXT c =
    let checked : c.refuse-checked.result ≡ found (first_of (taking_rules (ltb max_vars c.args.vars) false c.args.entries.now c.args.vars [])) =
    c.refuse-checked.ensures in
    let said : Ok tt ≡ found (first_of (taking_rules (ltb max_vars c.args.vars) false c.args.entries.now c.args.vars [])) =
    sym c.in-Ok.is ∙ checked in
    checks_file c.args.entries.now c.args.vars c.args.text.now said c.if-text-gt-MAX_TEXT.false c.with_starts.ensures
