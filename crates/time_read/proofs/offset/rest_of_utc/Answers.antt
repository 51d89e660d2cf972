use Rattle.time_read.proofs.OffsetEnds.{offset_z_end, offset_z_is}
use Rattle.time_read.proofs.offset.rest_of_utc.Goals as goal

pub returns-in-Err-clause-fault : goal.returns-in-Err-clause-fault
returns-in-Err-clause-fault c =
    offset_z_end c.args.profile c.args.text.now _ c.in-Err.ensures.fault

pub returns-clause-read : goal.returns-clause-read
returns-clause-read c =
    rw c.signed_offset.ensures (offset_z_is c.args.profile c.args.text.now c.in-Ok.ensures.read)
