use Rattle.time_read.proofs.OffsetEnds.{offset_field, offset_end, offset_is}
use Rattle.time_read.proofs.offset.rest_of_signed.Goals as goal

pub returns-in-Err-clause-fault : goal.returns-in-Err-clause-fault
returns-in-Err-clause-fault c =
    offset_field c.args.profile c.args.is_negative c.args.text.now _ (rw c.is_some.ensures at c.in-Err.ensures.fault)

pub returns-in-Err-end-clause-fault : goal.returns-in-Err-end-clause-fault
returns-in-Err-end-clause-fault c =
    offset_end c.args.profile c.args.is_negative _ c.args.text.now _ _ (rw c.is_some.ensures at c.in-Ok.ensures.read) c.in-Err-end.ensures.fault

pub returns-clause-read : goal.returns-clause-read
returns-clause-read c =
    rw c.signed_offset.ensures (offset_is c.args.profile c.args.is_negative _ c.args.text.now _ (rw c.is_some.ensures at c.in-Ok.ensures.read)
    c.in-Ok-end.ensures.read)
