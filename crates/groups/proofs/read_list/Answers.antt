-- `groups::read_list` meets its contract: the groups are placed and the clauses read behind them, and then the lengths are judged. Assumes
-- nothing.
use mathlib.Core.Path.{◌≡◌, sym, ◌∙◌, ap}
use Prim.Native.Nat.{ℕ, ◌+◌, ◌-◌, ◌*◌}
use native.Mathlib.Omega.{arith}
use lib.ListN.{length}
use Rattle.texts.specs.Groups.{groups_from}
use Rattle.texts.specs.Plain.{entries_of}
use Rattle.groups.proofs.ReadLaws.{own_le, base_low, base_is, clauses_complete, list_finished}
use Rattle.groups.specs.Lists.{finished_of}
use Rattle.groups.proofs.read_list.Goals as goal

pub overflow_mul-base : goal.overflow_mul-base
overflow_mul-base c =
    let r = own_le c.requires.0 c.clauses_of-own.result c.clauses_of-own.ensures in record { fits = omega (arith, r) }

pub overflow_add-base : goal.overflow_add-base
overflow_add-base c =
    let r = own_le c.requires.0 c.clauses_of-own.result c.clauses_of-own.ensures in
    record { fits = omega (arith, r, c.requires.0.vars_fit) }

pub overflow_sub-base : goal.overflow_sub-base
overflow_sub-base c =
    base_low c.requires.0 c.clauses_of-own.result c.clauses_of-own.ensures

pub place_groups-requires : goal.place_groups-requires
place_groups-requires c =
    let base : let a = c.args in 3 * c.clauses_of-own.result + a.vars - 2 * length a.sizes.now ≡ length (entries_of (groups_from 0 a.sizes.now)) =
    base_is c.requires.0 c.clauses_of-own.result c.clauses_of-own.ensures in
    (base, omega (arith, c.requires.0.vars_are, c.requires.0.vars_fit), c.requires.0.room)

pub read_clauses-requires : goal.read_clauses-requires
read_clauses-requires c =
    let w = c.requires.0 in (
      w.within,
      w.text_fits,
      w.vars_fit,
      omega (arith, own_le w c.clauses_of-own.result c.clauses_of-own.ensures, w.vars_fit),
      omega (arith, w.room, c.place_groups.ensures.len),
    )

pub overflow_add-own : goal.overflow_add-own
overflow_add-own c =
    record { fits = omega (arith, own_le c.requires.0 c.clauses_of-own.result c.clauses_of-own.ensures, c.requires.1) }

pub returns-in-Ok : goal.returns-in-Ok
returns-in-Ok c =
    let base : let a = c.args in 3 * c.clauses_of-own.result + a.vars - 2 * length a.sizes.now ≡ length (entries_of (groups_from 0 a.sizes.now)) =
    base_is c.requires.0 c.clauses_of-own.result c.clauses_of-own.ensures in
    let a = c.args in
    list_finished (sym c.requires.0.vars_are) base c.place_groups.ensures (clauses_complete c.read_clauses.ensures c.in-Ok.n c.in-Ok.is)
    c.read_clauses.ensures.rest_is
    (c.finished.ensures ∙
    ap (λ (k : ℕ). finished_of (length a.sizes.now) a.vars (k + a.clauses) c.in-Ok.n) c.clauses_of-own.ensures)
