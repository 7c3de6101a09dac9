-- `made` meets its contract: the buffers are those of the run that is made. Assumes nothing.
use Rattle.texts.specs.Shorter.{shorter_given}
use Rattle.shorter.proofs.MadeLaws.{lent}
use Rattle.shorter.proofs.made.Goals as goal

pub put_run-requires : goal.put_run-requires
put_run-requires c =
    let a = c.args in
    lent (shorter_given a.entries.now a.vars a.budget a.chunk_limit a.text.now) c.requires
