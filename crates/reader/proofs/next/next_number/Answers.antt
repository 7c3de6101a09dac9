-- `reader::next::next_number` meets its contract. The next token is found, or that there is none; then it is read. Assumes nothing.
use mathlib.Core.Path.{sym, ◌∙◌}
use mathlib.Core.Bool.{not}
use native.Mathlib.Omega.{arith}
use Rattle.std.proofs.Common.{rules}
use Rattle.texts.specs.Text.{is_blank}
use Rattle.reader.proofs.NextLaws.{finds_none, finds_malformed, finds_number}
use Rattle.reader.proofs.next.next_number.Goals as goal

pub returns-then-text-from : goal.returns-then-text-from
returns-then-text-from c =
    let first = c.find-from.ensures.first (λ b. not (is_blank b)) (λ b r w h. search rules) in
    let s = c.args in
    finds_none s.text.now s.at c.find-from.result first c.if-text-from.true

pub returns-in_default : goal.returns-in_default
returns-in_default c =
    let first = c.find-from.ensures.first (λ b. not (is_blank b)) (λ b r w h. search rules) in
    let s = c.args in
    finds_malformed s.text.now s.at c.find-from.result first c.find-to.result (c.find-to.ensures.first is_blank (λ b r w h. h))
    (omega (arith, c.if-text-from.false)) (sym c.token_of.ensures ∙ c.in_default.is)

pub returns : goal.returns
returns c =
    let first = c.find-from.ensures.first (λ b. not (is_blank b)) (λ b r w h. search rules) in
    let s = c.args in
    finds_number s.text.now s.at c.find-from.result first c.find-to.result (c.find-to.ensures.first is_blank (λ b r w h. h))
    (omega (arith, c.if-text-from.false)) c.in-Some.entry (sym c.token_of.ensures ∙ c.in-Some.is)
