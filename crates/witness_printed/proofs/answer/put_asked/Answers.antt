-- `answer::put_asked` meets its contract: the answer is that of what the question left. Assumes nothing.
use mathlib.Core.Path.{◌≡◌, sym}
use native.Mathlib.Omega.{arith}
use Rattle.texts.specs.WitnessPrinted.{witness_asked, witness_text_of_asked}
use Rattle.buffers.proofs.PutLaws.{room_same, put_same}
use Rattle.witness_printed.specs.Pair.{answer_text}
use Rattle.witness_printed.proofs.AnswerLaws.{asked_text, bits_same}
use Rattle.witness_printed.proofs.answer.put_asked.Goals as goal

pub put_answer-requires : goal.put_answer-requires
put_answer-requires c =
    let text : let a = c.args in
    answer_text c.witness-report.result c.witness-report.new.first c.witness-report.new.witness
    ≡ witness_text_of_asked (witness_asked a.vars a.entries.now a.variable) =
    asked_text c.args.vars c.args.entries.now c.args.variable c.requires.1 c.requires.0.listed c.witness-report.ensures in
    let p = c.requires in
    record {
      first_len = omega (arith, p.1.first_len, p.1.bits_len, c.witness-report.auto.first);
      witness_len = omega (arith, p.1.witness_len, p.1.bits_len, c.witness-report.auto.witness);
      vars_fit = omega (arith, p.1.bits_len, p.0.listed.listed.lent.in_limits.vars_fit);
      room = room_same (sym text) p.0.room;
    }

pub returns : goal.returns
returns c =
    let text : let a = c.args in
    answer_text c.witness-report.result c.witness-report.new.first c.witness-report.new.witness
    ≡ witness_text_of_asked (witness_asked a.vars a.entries.now a.variable) =
    asked_text c.args.vars c.args.entries.now c.args.variable c.requires.1 c.requires.0.listed c.witness-report.ensures in
    let left = c.witness-report.ensures in
    record {
      put = put_same text c.put_answer.ensures.put;
      first_is = left.first_is;
      witness_is = left.witness_is;
      bits_are = bits_same left.result_is c.put_answer.ensures;
    }
