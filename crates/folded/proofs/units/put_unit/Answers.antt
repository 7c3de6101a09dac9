-- `units::put_unit` meets its contract: nothing for a byte of 0, else the variable with its sign, and 0. Assumes nothing.
use mathlib.Core.Path.{◌≡◌}
use mathlib.Core.List.{List, [], ◌∷◌, ◌++◌}
use Prim.Native.Nat.{ℕ}
use lib.Dec.{eqb}
use Rattle.texts.specs.ModelLine.{signed}
use Rattle.buffers.proofs.PutLaws.{put_then, put_same}
use Rattle.folded.specs.Folded.{unit_line}
use Rattle.folded.proofs.FoldedLaws.{unit_some}
use Rattle.folded.proofs.units.put_unit.Goals as goal

pub returns : goal.returns
returns c =
    let number : List ℕ =
    signed (eqb c.args.byte 1) c.args.v.0 in
    let whole : number ++ (32 ∷ 48 ∷ 10 ∷ []) ≡ unit_line c.args.v.0 c.args.byte =
    unit_some c.args.v.0 c.args.byte c.if-byte-eq0.false in
    put_same whole (put_then c.put_signed-next.ensures c.put_word.ensures)
