-- `others::count_others` meets its contract. Assumes nothing.
use mathlib.Core.Path.{◌≡◌, sym, ◌∙◌, ap}
use mathlib.Core.List.{[]}
use Prim.Native.Nat.{◌<◌}
use native.Mathlib.Omega.{arith}
use native.Mathlib.Numerals.{add-one}
use lib.ListN.{length, get_or}
use Rattle.rules.specs.Lists.{count_if}
use Rattle.rules.specs.Meaning.{clauses}
use Rattle.formula.proofs.ClauseLaws.{length_starts}
use Rattle.buffers.proofs.CountLaws.{counting_step, counting_done}
use Rattle.folded.specs.Folded.{is_other}
use Rattle.folded.proofs.FoldedLaws.{clause_at_lem}
use Rattle.folded.proofs.others.count_others.Goals as goal
use Rattle.folded.proofs.others.count_others.Goals.{then-is_other, else-is_other}

pub overflow_sub-i-end : goal.overflow_sub-i-end
overflow_sub-i-end c =
    omega (arith, length_starts c.requires)

pub is_other-requires : goal.is_other-requires
is_other-requires c =
    record { formula = c.requires; some = omega arith; most = omega (arith, length_starts c.requires) }

pub loop-i-preserved : goal.loop-i-preserved
loop-i-preserved c =
    let more : c.loop-i.i < length (clauses c.args.entries.now) =
    omega (arith, length_starts c.requires) in
    let i = c.loop-i.i in
    let said : c.is_other.result ≡ is_other c.args.values.now (get_or (clauses c.args.entries.now) i []) =
    c.is_other.ensures ∙ ap (is_other c.args.values.now) (clause_at_lem c.args.entries.now i more) in
    elim c.if-is_other.branch [
      | then-is_other w ↦
          rw w.others-is
          (counting_step [] c.loop-i.invariant more
          (add-one c.loop-i.others ∙ ap (λ b. count_if b c.loop-i.others) (sym w.if-is_other.true ∙ said)))
      | else-is_other w ↦
          rw w.others-is
          (counting_step [] c.loop-i.invariant more (ap (λ b. count_if b c.loop-i.others) (sym w.if-is_other.false ∙ said)))
    ]

pub returns : goal.returns
returns c =
    counting_done c.loop-i.invariant (omega (arith, c.loop-i-test.false, length_starts c.requires))
