-- `buffers::put::put_word` meets its contract. Assumes nothing.
use Rattle.std.proofs.Common.{refl, arith}
use Rattle.buffers.proofs.PutLaws.{put_part}
use Rattle.buffers.proofs.put.put_word.Goals as goal

pub returns : goal.returns
returns c =
    record { next_is = refl; after_is = put_part c.args.out.now c.args.word.now c.args.at c.requires.fits (omega arith) c.copy_from_slice.ensures.after }
