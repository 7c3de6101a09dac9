-- `reader::tokens::next_step` meets its contract. The next token is found, or that there is none; then it is judged. Assumes nothing.
use mathlib.Core.Path.{◌≡◌, sym, ◌∙◌}
use mathlib.Core.Bool.{false}
use Prim.Native.Nat.{◌-◌}
use Rattle.std.proofs.Common.{rules}
use lib.ListN.{take, drop}
use Rattle.texts.specs.Text.{is_blank}
use Rattle.texts.specs.Reading.{ends_text}
use Rattle.reader.specs.Words.{sizes, value_of}
use Rattle.reader.specs.Steps.{entry_step}
use Rattle.reader.proofs.StepLaws.{step_short, step_end, step_percent, step_bad, step_entry, step_of}
use Rattle.reader.proofs.tokens.next_step.Goals as goal

pub returns-then-c-h : goal.returns-then-c-h
returns-then-c-h c =
    let s = c.args in
    step_short s.h s.text.now s.c c.next_token-from.result c.next_token-from.ensures c.if-text-from.true c.if-c-h.true

pub returns-then-text-from : goal.returns-then-text-from
returns-then-text-from c =
    let s = c.args in
    step_end s.h s.text.now s.c c.next_token-from.result c.next_token-from.ensures c.if-text-from.true c.if-c-h.false

pub returns-then-ends_text : goal.returns-then-ends_text
returns-then-ends_text c =
    let last = c.find-to.ensures.first is_blank (λ b r w h. search rules) in
    let s = c.args in
    step_percent s.h s.text.now s.c c.next_token-from.result c.next_token-from.ensures c.find-to.result last c.if-text-from.false
    (sym c.ends_text.ensures ∙ c.if-ends_text.true)

pub returns-in_default : goal.returns-in_default
returns-in_default c =
    let last = c.find-to.ensures.first is_blank (λ b r w h. search rules) in
    let goes_on : let s = c.args in let n = c.next_token-from.result in ends_text (sizes s.h) s.c.clauses (take (c.find-to.result - n) (drop n s.text.now))
    ≡ false =
    sym c.ends_text.ensures ∙ c.if-ends_text.false in
    let s = c.args in
    step_bad s.h s.text.now s.c c.next_token-from.result c.next_token-from.ensures c.find-to.result last c.if-text-from.false
    goes_on (sym c.token_of.ensures ∙ c.in_default.is)

pub returns : goal.returns
returns c =
    let last = c.find-to.ensures.first is_blank (λ b r w h. search rules) in
    let goes_on : let s = c.args in let n = c.next_token-from.result in ends_text (sizes s.h) s.c.clauses (take (c.find-to.result - n) (drop n s.text.now))
    ≡ false =
    sym c.ends_text.ensures ∙ c.if-ends_text.false in
    let s = c.args in
    step_of {step = entry_step s.h s.c c.next_token-from.result c.find-to.result (value_of c.in-Some.entry)} c.judge_entry.ensures
    (step_entry s.h s.text.now s.c c.next_token-from.result c.next_token-from.ensures c.find-to.result last c.if-text-from.false
    c.in-Some.entry goes_on (sym c.token_of.ensures ∙ c.in-Some.is))
