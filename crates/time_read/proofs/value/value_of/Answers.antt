use Rattle.std.proofs.Common.{sym, refl}
use Rattle.time_read.proofs.Numbers.{letter_fault}
use Rattle.time_read.proofs.Wholes.{whole_date, whole_letter, whole_clock, whole_tail, whole_is}
use Rattle.time_read.proofs.value.value_of.Goals as goal

pub returns-in-Err-clause-fault : goal.returns-in-Err-clause-fault
returns-in-Err-clause-fault g c =
    rw (sym c.PROFILE-profile.ensures) (whole_date _ c.args.text.now _ c.in-Err.ensures.fault)

pub returns-in_default-clause-fault : goal.returns-in_default-clause-fault
returns-in_default-clause-fault g c =
    rw (sym c.PROFILE-profile.ensures) (whole_letter _ _ c.args.text.now _ _ c.in-Ok.ensures.read
    (letter_fault _ 84 _ _ refl refl c.in_default.ensures.none))

pub returns-in-Err-clock-clause-fault : goal.returns-in-Err-clock-clause-fault
returns-in-Err-clock-clause-fault g c =
    rw (sym c.PROFILE-profile.ensures) (whole_clock _ _ c.args.text.now _ _ _ c.in-Ok.ensures.read c.in-Some.ensures.some c.in-Err-clock.ensures.fault)

pub returns-in-Err-fraction_and_offset-clause-fault : goal.returns-in-Err-fraction_and_offset-clause-fault
returns-in-Err-fraction_and_offset-clause-fault g c =
    rw (sym c.PROFILE-profile.ensures) (whole_tail _ _ _ c.args.text.now _ _ _ _ c.in-Ok.ensures.read c.in-Some.ensures.some c.in-Ok-clock.ensures.read c.in-Err-fraction_and_offset.ensures.fault)

pub returns-clause-read : goal.returns-clause-read
returns-clause-read g c =
    rw (sym c.PROFILE-profile.ensures, c.new_in_offset.ensures, c.date_of-date.ensures, c.from_valid_hms_nano-time.ensures)
    (whole_is _ _ _ _ _ c.args.text.now _ _ _ c.in-Ok.ensures.read c.in-Some.ensures.some c.in-Ok-clock.ensures.read c.in-Ok-fraction_and_offset.ensures.read)
