-- `line::put_answer` meets its contract: three numbers of the run, three of its statuses. Assumes nothing.
use mathlib.Core.Path.{◌≡◌, ◌∙◌, ap}
use mathlib.Core.List.{List, ◌++◌}
use Prim.Native.Nat.{ℕ, ◌-◌}
use Rattle.texts.specs.Printed.{answer_line}
use Rattle.lines.specs.Lines.{count_fields, end_fields}
use Rattle.buffers.proofs.PutLaws.{put_then, put_same}
use Rattle.lines.proofs.LineLaws.{answer_line_lem}
use Rattle.lines.proofs.line.put_answer.Goals as goal

pub returns : goal.returns
returns c =
    let counts : List ℕ = let r = c.args.report in count_fields c.number-number.result r.calls r.tries in
    let ends : List ℕ = let r = c.args.report in end_fields r.forced r.free (c.args.vars - r.forced - r.free) in
    let line : counts ++ ends ≡ answer_line c.args.vars c.args.report =
    let r = c.args.report in
    ap (λ (n : ℕ). count_fields n r.calls r.tries ++ ends) c.number-number.ensures ∙ answer_line_lem c.args.vars r in
    put_same line (put_then c.put_counts-behind_counts.ensures c.put_ends.ensures)
