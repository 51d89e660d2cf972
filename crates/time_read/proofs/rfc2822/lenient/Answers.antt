use Rattle.std.proofs.Common.{◌∙◌, refl}
use Rattle.time_known.proofs.Rules.Parts.{same_value}
use Rattle.time_read.proofs.MailTexts.{with_rest}
use Rattle.time_read.proofs.rfc2822.lenient.Goals as goal

pub returns-clause-read : goal.returns-clause-read
returns-clause-read c =
    let same = c.new_in_offset.ensures ∙ same_value c.date_of.ensures c.from_valid_hms_nano-time.ensures refl in
    rw same (with_rest c.in-Ok.ensures.read (with_rest c.in-Ok-lenient_date.ensures.read
    (with_rest c.in-Ok-gap.ensures.read (with_rest c.in-Ok-lenient_clock.ensures.read c.in-Ok-lenient_zone.ensures.read))))
