-- The proof of the cycle of calls {put_decimal}. The measure is the number: a tenth of it is less. Below 10 there is one digit; from 10
-- on the last one stands behind those of a tenth. Assumes nothing.
use mathlib.Core.Path.{sym}
use mathlib.Core.List.{[], ◌∷◌}
use native.Mathlib.Omega.{arith}
use Rattle.texts.specs.Plain.{decimal, digit}
use Rattle.texts.proofs.DecimalLaws.{decimal_small, decimal_more}
use Rattle.buffers.proofs.PutLaws.{room_first, room_then, room_same, put_then, put_same}
use Prim.Native.Nat.{◌/◌, ◌%◌}
use Rattle.buffers.proofs.put.+put_decimal.Goals as goal

pub put_byte-requires : goal.put_byte-requires
put_byte-requires t c =
    room_same (decimal_small c.args.n c.if-n-lt10.true) c.requires

pub returns-then-n-lt10 : goal.returns-then-n-lt10
returns-then-n-lt10 t c =
    put_same (sym (decimal_small c.args.n c.if-n-lt10.true)) c.put_byte.ensures

pub put_decimal-next-requires : goal.put_decimal-next-requires
put_decimal-next-requires t c =
    let n = c.args.n in (
      omega (arith, c.decreases, c.if-n-lt10.false),
      room_first (decimal (n / 10)) (digit (n % 10) ∷ []) (room_same (decimal_more n c.if-n-lt10.false) c.requires),
    )

pub put_byte-requires-2 : goal.put_byte-requires-2
put_byte-requires-2 t c =
    let n = c.args.n in
    room_then (decimal (n / 10)) (digit (n % 10) ∷ []) (room_same (decimal_more n c.if-n-lt10.false) c.requires) c.put_decimal-next.ensures

pub returns : goal.returns
returns t c =
    put_same (sym (decimal_more c.args.n c.if-n-lt10.false)) (put_then c.put_decimal-next.ensures c.put_byte-2.ensures)
