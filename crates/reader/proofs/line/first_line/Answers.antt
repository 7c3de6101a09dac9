-- `reader::line::first_line` meets its contract. Assumes nothing.
use mathlib.Core.Path.{◌≡◌, refl, sym, ◌∙◌}
use native.Mathlib.Omega.{arith}
use borrow.Author.Rules.{rules}
use Rattle.texts.specs.Text.{is_lf, lines_of}
use Rattle.reader.specs.Scan.{first_from}
use Rattle.reader.proofs.ScanLaws.{from_le}
use Rattle.reader.proofs.LineLaws.{line_found, line_past}
use Rattle.reader.proofs.line.first_line.Goals as goal

pub loop-at-init : goal.loop-at-init
unfolding lines_of
loop-at-init c =
    (search rules, refl)

pub returns-then-not-is_skipped : goal.returns-then-not-is_skipped
returns-then-not-is_skipped c =
    let end_is : c.find-end.result ≡ first_from is_lf c.args.text.now c.loop-at.at = (c.find-end.ensures.first is_lf (λ b r w h. search rules)) in
    let l = c.loop-at in
    sym
    (line_found c.args.text.now l.at c.find-end.result end_is c.loop-at-test.true
    (sym c.is_skipped.ensures ∙ c.if-not-is_skipped.true))
    ∙
    l.invariant.1

pub loop-at-preserved : goal.loop-at-preserved
loop-at-preserved c =
    let end_is : c.find-end.result ≡ first_from is_lf c.args.text.now c.loop-at.at = (c.find-end.ensures.first is_lf (λ b r w h. search rules)) in
    let l = c.loop-at in (
      omega (arith, end_is, from_le is_lf c.args.text.now l.at c.loop-at-test.true),
      sym
          (line_past c.args.text.now l.at c.find-end.result end_is c.loop-at-test.true
          (sym c.is_skipped.ensures ∙ c.if-not-is_skipped.false)) ∙ l.invariant.1,
    )
