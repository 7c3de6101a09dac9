-- `clauses::put_reason` meets its contract: as many clauses are counted as have a mark, and each has its line. Assumes nothing.
use mathlib.Core.Path.{◌≡◌, sym, ◌∙◌, ap}
use mathlib.Core.List.{List, ◌++◌}
use Prim.Native.Nat.{ℕ}
use native.Mathlib.Omega.{arith}
use lib.ListN.{length, take}
use Rattle.rules.specs.Lists.{is_set, count}
use Rattle.rules.specs.Meaning.{clauses}
use Rattle.rules.specs.Why.{marked}
use Rattle.texts.specs.WhyPrinted.{why_line, kept_lines}
use Rattle.formula.proofs.StartsLaws.{found_front}
use Rattle.buffers.specs.Put.{Room}
use Rattle.buffers.proofs.PutLaws.{room_first, room_then, room_same, put_then, put_same}
use Rattle.why_printed.specs.Reason.{reason_text}
use Rattle.why_printed.proofs.ReasonLaws.{length_marked}
use Rattle.why_printed.proofs.clauses.put_reason.Goals as goal

pub put_first-next-requires : goal.put_first-next-requires
put_first-next-requires c =
    let kept_is : c.count_set-kept.result
    ≡ length (marked c.args.marks.now (clauses c.args.entries.now)) =
    let a = c.args in
    c.count_set-kept.ensures ∙ ap (λ (n : ℕ). count is_set (take n a.marks.now)) c.find_starts-count.ensures.count_is ∙
    sym (length_marked a.marks.now (clauses a.entries.now)) in
    let first : List ℕ =
    why_line c.args.report c.count_set-kept.result in
    let lines : List ℕ =
    kept_lines c.args.marks.now (clauses c.args.entries.now) in
    let whole : let a = c.args in
    first ++ lines ≡ reason_text a.report a.entries.now a.marks.now =
    ap (λ (k : ℕ). why_line c.args.report k ++ lines) kept_is in
    let room : Room 0 (first ++ lines) c.args.out.now =
    room_same (sym whole) c.requires.0.room in
    room_first first lines room

pub put_clauses-requires : goal.put_clauses-requires
put_clauses-requires c =
    let kept_is : c.count_set-kept.result
    ≡ length (marked c.args.marks.now (clauses c.args.entries.now)) =
    let a = c.args in
    c.count_set-kept.ensures ∙ ap (λ (n : ℕ). count is_set (take n a.marks.now)) c.find_starts-count.ensures.count_is ∙
    sym (length_marked a.marks.now (clauses a.entries.now)) in
    let first : List ℕ =
    why_line c.args.report c.count_set-kept.result in
    let lines : List ℕ =
    kept_lines c.args.marks.now (clauses c.args.entries.now) in
    let whole : let a = c.args in
    first ++ lines ≡ reason_text a.report a.entries.now a.marks.now =
    ap (λ (k : ℕ). why_line c.args.report k ++ lines) kept_is in
    let room : Room 0 (first ++ lines) c.args.out.now =
    room_same (sym whole) c.requires.0.room in (
      record {
        entries_fit = omega (arith, c.requires.0.entries_fit);
        starts_are = found_front c.find_starts-count.ensures;
        marks_fit = c.requires.0.marks_fit;
      },
      room_then first lines room c.put_first-next.ensures,
    )

pub returns : goal.returns
returns c =
    let kept_is : c.count_set-kept.result
    ≡ length (marked c.args.marks.now (clauses c.args.entries.now)) =
    let a = c.args in
    c.count_set-kept.ensures ∙ ap (λ (n : ℕ). count is_set (take n a.marks.now)) c.find_starts-count.ensures.count_is ∙
    sym (length_marked a.marks.now (clauses a.entries.now)) in
    let first : List ℕ =
    why_line c.args.report c.count_set-kept.result in
    let lines : List ℕ =
    kept_lines c.args.marks.now (clauses c.args.entries.now) in
    let whole : let a = c.args in
    first ++ lines ≡ reason_text a.report a.entries.now a.marks.now =
    ap (λ (k : ℕ). why_line c.args.report k ++ lines) kept_is in
    record {
      put = put_same whole (put_then c.put_first-next.ensures c.put_clauses.ensures);
      starts_are = c.find_starts-count.ensures.starts_are;
    }
