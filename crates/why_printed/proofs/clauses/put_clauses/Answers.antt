-- `clauses::put_clauses` meets its contract. Assumes nothing.
use mathlib.Core.Path.{sym}
use mathlib.Core.List.{[]}
use Prim.Native.Nat.{◌<◌}
use native.Mathlib.Omega.{arith}
use lib.ListN.{length}
use Rattle.rules.specs.Meaning.{clauses}
use Rattle.rules.proofs.ClauseLaws.{clauses_le}
use Rattle.buffers.proofs.PutLaws.{room_same, put_same}
use Rattle.buffers.proofs.PieceLaws.{piecing_room, piecing_step, piecing_done}
use Rattle.why_printed.proofs.ReasonLaws.{starts_len, kept_at}
use Rattle.why_printed.proofs.clauses.put_clauses.Goals as goal

pub overflow_sub-i-end : goal.overflow_sub-i-end
overflow_sub-i-end c =
    omega (arith, starts_len c.args.entries.now c.requires.0.starts_are)

pub overflow_cast-i : goal.overflow_cast-i
overflow_cast-i c =
    omega (arith, starts_len c.args.entries.now c.requires.0.starts_are, clauses_le c.args.entries.now, c.requires.0.entries_fit)

pub overflow_add-i : goal.overflow_add-i
overflow_add-i c =
    omega (arith, starts_len c.args.entries.now c.requires.0.starts_are, clauses_le c.args.entries.now, c.requires.0.entries_fit)

pub bounds-marks-i : goal.bounds-marks-i
bounds-marks-i c =
    omega (arith, starts_len c.args.entries.now c.requires.0.starts_are, c.requires.0.marks_fit)

pub put_if_kept-next-requires : goal.put_if_kept-next-requires
put_if_kept-next-requires c =
    let i = c.loop-i.i in
    let more : i < length (clauses c.args.entries.now) = omega (arith, starts_len c.args.entries.now c.requires.0.starts_are) in (
      record { starts_are = c.requires.0.starts_are; some = omega arith; most = omega (arith, more) },
      room_same (sym (kept_at c.args.entries.now c.args.marks.now i more)) (piecing_room [] c.loop-i.invariant more),
    )

pub loop-i-preserved : goal.loop-i-preserved
loop-i-preserved c =
    let i = c.loop-i.i in
    let more : i < length (clauses c.args.entries.now) = omega (arith, starts_len c.args.entries.now c.requires.0.starts_are) in
    piecing_step [] c.loop-i.invariant more
    (put_same (kept_at c.args.entries.now c.args.marks.now i more) c.put_if_kept-next.ensures)

pub returns : goal.returns
returns c =
    piecing_done c.loop-i.invariant (omega (arith, c.loop-i-test.false, starts_len c.args.entries.now c.requires.0.starts_are))
