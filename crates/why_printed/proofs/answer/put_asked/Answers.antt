-- `answer::put_asked` meets its contract: the answer is that of what the question left. Assumes nothing.
use mathlib.Core.Path.{◌≡◌, sym}
use native.Mathlib.Omega.{arith}
use Rattle.rules.specs.Meaning.{clauses}
use Rattle.texts.specs.WhyPrinted.{why_text_of_report, why_text_of_list}
use Rattle.buffers.proofs.PutLaws.{room_same, put_same}
use Rattle.why_printed.proofs.AnswerLaws.{asked_text}
use Rattle.why_printed.proofs.answer.put_asked.Goals as goal

pub put_answer-requires : goal.put_answer-requires
put_answer-requires c =
    let text : let a = c.args in
    why_text_of_report c.why-report.result (clauses a.entries.now) c.why-report.new.marks c.why-report.new.values
    ≡ why_text_of_list a.vars a.entries.now a.literal.0 =
    let a = c.args in asked_text a.vars a.entries.now a.literal.0 c.requires.1 c.why-report.ensures in
    let p = c.requires in
    record {
      entries_fit = p.0.entries_fit;
      clauses_fit = p.0.clauses_fit;
      marks_fit = omega (arith, p.0.clauses_fit, p.1.marks_len, c.why-report.auto.marks);
      values_fit = omega (arith, p.0.vars_fit, p.1.values_len, c.why-report.auto.values);
      room = room_same (sym text) p.0.room;
    }

pub returns : goal.returns
returns c =
    let text : let a = c.args in
    why_text_of_report c.why-report.result (clauses a.entries.now) c.why-report.new.marks c.why-report.new.values
    ≡ why_text_of_list a.vars a.entries.now a.literal.0 =
    let a = c.args in asked_text a.vars a.entries.now a.literal.0 c.requires.1 c.why-report.ensures in
    record {
      put = put_same text c.put_answer.ensures;
      marks_are = c.why-report.ensures.marks_are;
      values_are = c.why-report.ensures.values_are;
    }
