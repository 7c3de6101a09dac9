-- `put_answer` meets its contract: one empty clause after 20, and else what the run has settled. Assumes nothing.
use mathlib.Core.Path.{sym}
use Rattle.buffers.proofs.PutLaws.{room_same, put_same}
use Rattle.shorter.proofs.MadeLaws.{empty_text, folded_text_lem, settled_over}
use Rattle.shorter.proofs.put_answer.Goals as goal

pub put_empty-requires : goal.put_empty-requires
put_empty-requires c = room_same (empty_text c.requires c.in-NoModel.is) c.requires.room

pub returns-in-NoModel : goal.returns-in-NoModel
returns-in-NoModel c = put_same (sym (empty_text c.requires c.in-NoModel.is)) c.put_empty.ensures

pub put_settled-requires : goal.put_settled-requires
put_settled-requires c = settled_over c.requires c.in_default.not-NoModel

pub returns : goal.returns
returns c = put_same (sym (folded_text_lem c.requires c.in_default.not-NoModel)) c.put_settled.ensures
