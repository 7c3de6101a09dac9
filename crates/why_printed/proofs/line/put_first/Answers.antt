-- `line::put_first` meets its contract: three numbers, then how many are kept, then LF. Assumes nothing.
use mathlib.Core.Path.{◌≡◌, ◌∙◌, ap}
use mathlib.Core.List.{List, [], ◌∷◌, ◌++◌}
use Prim.Native.Nat.{ℕ}
use Rattle.texts.specs.Plain.{decimal}
use Rattle.texts.specs.WhyPrinted.{kept_word, why_line}
use Rattle.lines.specs.Lines.{count_fields}
use Rattle.buffers.proofs.PutLaws.{put_then, put_same}
use Rattle.why_printed.proofs.ReasonLaws.{why_line_lem}
use Rattle.why_printed.proofs.line.put_first.Goals as goal

pub returns : goal.returns
returns c =
    let counts : List ℕ =
    let r = c.args.report in count_fields c.number-number.result r.calls r.tries in
    let kept_field : List ℕ =
    kept_word ++ decimal c.args.kept in
    let behind : List ℕ =
    kept_field ++ 10 ∷ [] in
    let line : counts ++ behind ≡ why_line c.args.report c.args.kept =
    let r = c.args.report in
    ap (λ (n : ℕ). count_fields n r.calls r.tries ++ behind) c.number-number.ensures ∙ why_line_lem r c.args.kept in
    put_same line (put_then c.put_counts-behind_counts.ensures (put_then c.put_field-behind_kept.ensures c.put_byte.ensures))
