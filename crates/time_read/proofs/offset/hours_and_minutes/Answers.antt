use Rattle.time_read.proofs.OffsetEnds.{hours_first, hours_minute, hours_front}
use Rattle.time_read.proofs.offset.hours_and_minutes.Goals as goal

pub returns-in-Err-clause-fault : goal.returns-in-Err-clause-fault
returns-in-Err-clause-fault c =
    hours_first c.args.some c.args.text.now _ c.in-Err.ensures.fault

pub returns-in-Err-pair_after-clause-fault : goal.returns-in-Err-pair_after-clause-fault
returns-in-Err-pair_after-clause-fault c =
    hours_minute c.args.some _ c.args.text.now _ _ c.in-Ok.ensures.read
    (rw c.least_minute.ensures.least at c.in-Err-pair_after.ensures.fault)

pub returns-clause-read : goal.returns-clause-read
returns-clause-read c =
    hours_front c.args.some _ _ c.args.text.now _ _ c.in-Ok.ensures.read
    (rw c.least_minute.ensures.least at c.in-Ok-pair_after.ensures.read)
