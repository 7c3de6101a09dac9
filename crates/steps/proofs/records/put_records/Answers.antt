-- `records::put_records` meets its contract. Assumes nothing.
use Rattle.steps.proofs.RecordLaws.{recording_step, recording_done}
use Rattle.steps.proofs.records.put_records.Goals as goal

pub loop-i-preserved : goal.loop-i-preserved
loop-i-preserved c =
    recording_step c.requires c.loop-i.invariant
    c.loop-i-test.true c.put_record.ensures

pub returns : goal.returns
returns c =
    recording_done c.requires c.loop-i.invariant c.loop-i-test.false
