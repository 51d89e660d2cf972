use Rattle.std.proofs.Common.{refl, inl, true, false}
use Rattle.time_read.proofs.Tails.{tail_after, tail_is, no_lead, lead_none, at_letter, sign_begins}
use Rattle.time_read.proofs.tail.fraction_and_offset.Goals as goal

pub returns-in-Err-clause-fault : goal.returns-in-Err-clause-fault
returns-in-Err-clause-fault c =
    c.in-Err.ensures.fault

pub returns-in-Err-rest_of_utc-clause-fault : goal.returns-in-Err-rest_of_utc-clause-fault
returns-in-Err-rest_of_utc-clause-fault c =
    let l = at_letter c.in-Some.ensures.some in
    tail_after c.args.profile l.byte _ c.in-Ok.ensures.read l.whole (inl l.is)
    (c.in-Err-rest_of_utc.ensures.fault l.byte l.is)

pub returns-in-Some-clause-read : goal.returns-in-Some-clause-read
returns-in-Some-clause-read c =
    let l = at_letter c.in-Some.ensures.some in
    tail_is c.args.profile l.byte _ c.in-Ok.ensures.read l.whole (c.in-Ok-rest_of_utc.ensures.read l.byte l.is)

pub returns-in-Err-rest_of_signed-clause-fault : goal.returns-in-Err-rest_of_signed-clause-fault
returns-in-Err-rest_of_signed-clause-fault c =
    tail_after c.args.profile _ _ c.in-Ok.ensures.read c.in-Some-after_sign.ensures.some (sign_begins c.args.profile _)
    c.in-Err-rest_of_signed.ensures.fault

pub returns-in_default-after_sign-clause-fault : goal.returns-in_default-after_sign-clause-fault
returns-in_default-after_sign-clause-fault c =
    no_lead c.args.profile _ c.in-Ok.ensures.read
    (lead_none c.args.profile c.in-Ok.value.1.now c.in_default.ensures.none (c.in_default-after_sign.ensures.none false)
    (c.in_default-after_sign.ensures.none true)) c.after_fraction.ensures refl

pub returns-clause-read : goal.returns-clause-read
returns-clause-read c =
    tail_is c.args.profile _ _ c.in-Ok.ensures.read c.in-Some-after_sign.ensures.some c.in-Ok-rest_of_signed.ensures.read
