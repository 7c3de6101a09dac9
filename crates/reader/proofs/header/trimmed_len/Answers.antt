-- `reader::header::trimmed_len` meets its contract. Assumes nothing.
use Rattle.std.proofs.Common.{◌≡◌, ◌+◌, ◌-◌, sym, ◌∙◌, ap, ℕ, take, arith}
use Rattle.reader.proofs.HeaderLaws.{trim_step, trim_done}
use Rattle.reader.proofs.header.trimmed_len.Goals as goal

pub returns-then-not-is_blank : goal.returns-then-not-is_blank
returns-then-not-is_blank c =
    let l = c.loop-n in
    let line = c.args.line.now in
    let last : l.n - 1 + 1 ≡ l.n = omega arith in
    record {
      within = omega arith;
      is = ap (λ (n : ℕ). take n line) last ∙
          trim_done line l.n c.loop-n-test.true l.auto.n (sym c.is_blank.ensures ∙ c.if-not-is_blank.true) ∙
          l.invariant;
    }

pub loop-n-preserved : goal.loop-n-preserved
loop-n-preserved c =
    let l = c.loop-n in
    sym (trim_step c.args.line.now l.n c.loop-n-test.true l.auto.n (sym c.is_blank.ensures ∙ c.if-not-is_blank.false)) ∙ l.invariant
