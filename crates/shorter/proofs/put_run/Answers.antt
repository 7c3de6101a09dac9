-- `put_run` meets its contract: what the run leaves is what its text is put from. Assumes nothing.
use Rattle.rules.specs.Answer.{Buffers, Runs}
use Rattle.backbone.specs.Lent.{lent}
use Rattle.rules.specs.RunRefusals.{Accepted}
use Rattle.texts.specs.Shorter.{ShorterGiven, shorter_given, shorter_run}
use Rattle.shorter.proofs.MadeLaws.{lent_runs, status_room, over, done}
use Rattle.shorter.proofs.put_run.Goals as goal

pub put_front-length-requires : goal.put_front-length-requires
put_front-length-requires c =
    let the_given : ShorterGiven =
    let a = c.args in
    shorter_given a.entries.now a.vars a.budget a.chunk_limit a.text.now in
    let left : Buffers =
    lent c.run-report.new.buffers in
    let accepted : Accepted (shorter_run the_given) =
    c.requires.accepted in
    let runs : Runs (shorter_run the_given) c.run-report.result left =
    lent_runs the_given c.requires c.run-report.ensures.runs in
    (status_room the_given accepted runs, over the_given accepted runs)

pub returns-clause-put : goal.returns-clause-put
returns-clause-put c =
    let the_given : ShorterGiven =
    let a = c.args in
    shorter_given a.entries.now a.vars a.budget a.chunk_limit a.text.now in
    let left : Buffers =
    lent c.run-report.new.buffers in
    let accepted : Accepted (shorter_run the_given) =
    c.requires.accepted in
    let runs : Runs (shorter_run the_given) c.run-report.result left =
    lent_runs the_given c.requires c.run-report.ensures.runs in
    let w = runs in
    record {
      shortens = done the_given accepted w c.put_front-length.ensures;
      status_is = w.status_is;
      calls_are = w.calls_are;
      ways_are = w.ways_are;
      hints_are = w.hints_are;
      log_is = w.log_is;
    }
