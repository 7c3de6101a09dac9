-- `line::put_status` meets its contract: each test picks the words of its status. Assumes nothing.
use mathlib.Core.Path.{◌≡◌, sym, ap}
use Prim.Native.Nat.{ℕ}
use native.Mathlib.Omega.{arith}
use Rattle.texts.specs.Printed.{status_words}
use Rattle.buffers.proofs.PutLaws.{room_same, put_same}
use Rattle.lines.proofs.LineLaws.{words_off}
use Rattle.lines.proofs.line.put_status.Goals as goal

-- the words of a status that is known
words : (hint status n : ℕ) → status ≡ n → status_words status hint ≡ status_words n hint
words hint status n e = ap (λ (t : ℕ). status_words t hint) e

pub put_word-requires : goal.put_word-requires
put_word-requires c =
    room_same (words c.args.hint c.args.status 0 c.if-status-eq0.true) c.requires

pub put_field-requires : goal.put_field-requires
put_field-requires c =
    room_same (words c.args.hint c.args.status 2 (omega arith)) c.requires

pub put_field-requires-2 : goal.put_field-requires-2
put_field-requires-2 c =
    room_same
    (words_off c.args.status c.args.hint (omega arith)) c.requires

pub returns : goal.returns
returns c =
    put_same (sym (words_off c.args.status c.args.hint (omega arith)))
    c.put_field-2.ensures
