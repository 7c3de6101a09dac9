-- `verdict::put_accepted` meets its contract: the number, the word, LF. Assumes nothing.
use Rattle.buffers.proofs.PutLaws.{put_then, put_same}
use Rattle.claims_printed.proofs.VerdictLaws.{accepted_line}
use Rattle.claims_printed.proofs.verdict.put_accepted.Goals as goal

pub returns : goal.returns
returns c =
    put_same (accepted_line c.args.n) (put_then c.put_field-behind_number.ensures (put_then c.put_word-behind_word.ensures c.put_byte.ensures))
