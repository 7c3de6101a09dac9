-- `claims::check_counted` meets its contract: the number of claims, and then all of them. Assumes nothing.
use lib.ListN.{length}
use Rattle.rules.specs.Meaning.{clauses}
use Rattle.claims.proofs.FileLaws.{count_stop, count_claims}
use Rattle.claims.proofs.check_counted.Goals as goal

pub returns-in-Err : goal.returns-in-Err
returns-in-Err c =
    count_stop (length c.args.values.now) (clauses c.args.entries.now) c.in-Err.ensures

pub returns-in-Ok : goal.returns-in-Ok
returns-in-Ok c =
    count_claims (length c.args.values.now) (clauses c.args.entries.now) c.in-Ok.ensures c.check_all.ensures
