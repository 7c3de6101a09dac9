-- `answer::put_text` meets its contract: what the reading left is an entry list, or a refusal. Assumes nothing.
use mathlib.Core.Path.{sym}
use lib.Seq.{length-take-le}
use Rattle.buffers.proofs.PutLaws.{room_same, put_same}
use Rattle.witness_printed.proofs.AnswerLaws.{read_list, list_text, list_ready, read_line}
use Rattle.witness_printed.proofs.answer.put_text.Goals as goal

pub slice_bounds-put_list-end : goal.slice_bounds-put_list-end
slice_bounds-put_list-end c = (read_list c.read-reading.ensures c.requires.1 c.in-Accepted.is).counted

pub slice_bounds-put_list-end-in-Accepted : goal.slice_bounds-put_list-end-in-Accepted
slice_bounds-put_list-end-in-Accepted c =
    sym (length-take-le _ _ (read_list c.read-reading.ensures c.requires.1 c.in-Accepted.is).counted)

pub put_list-requires : goal.put_list-requires
put_list-requires c = list_ready (read_list c.read-reading.ensures c.requires.1 c.in-Accepted.is) c.args.variable c.requires.0

pub returns-in-Accepted : goal.returns-in-Accepted
returns-in-Accepted c =
    record {
      put =
          put_same (sym (list_text (read_list c.read-reading.ensures c.requires.1 c.in-Accepted.is) c.args.variable))
          c.put_list.ensures;
      entries_are = c.read-reading.ensures.after_is;
    }

pub put_refusal-requires : goal.put_refusal-requires
put_refusal-requires c =
    room_same (read_line c.read-reading.ensures c.requires.1 c.args.variable c.in_default.not-Accepted) c.requires.0

pub returns-in_default : goal.returns-in_default
returns-in_default c =
    record {
      put =
          put_same (sym (read_line c.read-reading.ensures c.requires.1 c.args.variable c.in_default.not-Accepted))
          c.put_refusal.ensures;
      entries_are = c.read-reading.ensures.after_is;
    }
