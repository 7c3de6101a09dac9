-- `clause::put_literal` meets its contract: the variable with the literal's sign, then a space. Assumes nothing.
use mathlib.Core.Path.{◌≡◌, ◌∙◌, ap}
use mathlib.Core.Bool.{Bool, not}
use mathlib.Core.List.{List, [], ◌∷◌, ◌++◌}
use Prim.Native.Nat.{ℕ}
use Rattle.texts.specs.Plain.{plain_entry}
use Rattle.texts.specs.ModelLine.{signed}
use Rattle.formula.specs.Literals.{is_positive}
use Rattle.buffers.proofs.PutLaws.{put_then, put_same}
use Rattle.folded.proofs.FoldedLaws.{literal-signed}
use Rattle.folded.proofs.clause.put_literal.Goals as goal

pub returns : goal.returns
returns c =
    let number : List ℕ =
    signed (not c.sign-positive.result) c.var_of-v.result.0 in
    let whole : number ++ (32 ∷ []) ≡ plain_entry c.args.l.0 ++ 32 ∷ [] =
    let l = c.args.l.0 in
    ap (λ (b : Bool). signed (not b) c.var_of-v.result.0 ++ (32 ∷ [])) c.sign-positive.ensures ∙
    ap (λ (v : ℕ). signed (not (is_positive l)) v ++ (32 ∷ [])) c.var_of-v.ensures ∙
    literal-signed l in
    put_same whole (put_then c.put_signed-next.ensures c.put_byte.ensures)
