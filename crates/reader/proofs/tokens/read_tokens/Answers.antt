-- `reader::tokens::read_tokens` meets its contract. Assumes nothing.
use Rattle.std.proofs.Common.{arith}
use Rattle.std.proofs.lemmas.Result.{err_from_is_err_and}
use Rattle.reader.specs.Steps.{After, left}
use Rattle.reader.proofs.StepLaws.{held}
use Rattle.reader.proofs.StoreLaws.{progress_step, progress_refused, progress_ended}
use Rattle.reader.proofs.tokens.read_tokens.Goals as goal

pub loop-x-preserved : goal.loop-x-preserved
loop-x-preserved c =
    let kept : let s = c.args in After s.h s.text.now c.loop-x.c (left s.h s.text.now c.loop-x.c) c.in-Some.x c.in-Some.next =
    (rw c.in-Some.is at c.in_ok-x.ensures).judges in
    let l = c.loop-x in
    let x = c.in-Some.x in
    rw (held x (omega (arith, kept.var, c.requires.0)))
    (progress_step c.args.h c.args.text.now c.args.from c.args.entries.now c.requires.1 l.c l.entries l.invariant x c.in-Some.next kept)

pub returns-in_err-x : goal.returns-in_err-x
returns-in_err-x c =
    let s = c.args in
    let l = c.loop-x in
    let p = err_from_is_err_and c.from_residual.result c.from_residual.ensures.1 in
    rw (p.1, p.2) (progress_refused s.h s.text.now s.from s.entries.now c.requires.1 l.c l.entries l.invariant c.in_err-x.field-0.0 c.in_err-x.ensures.judges)

pub returns : goal.returns
returns c =
    let s = c.args in
    let l = c.loop-x in
    progress_ended s.h s.text.now s.from s.entries.now c.requires.1 l.c l.entries l.invariant (rw c.in_default.is at c.in_ok-x.ensures).judges
