use Rattle.time_read.proofs.MailTexts.{with_rest}
use Rattle.time_read.proofs.rfc2822.lenient_zone.Goals as goal

pub returns-clause-read : goal.returns-clause-read
returns-clause-read c =
    rw c.signed_offset.ensures (with_rest c.in-Ok.ensures.read
    (with_rest c.in-Ok-zone.ensures.read c.in-Ok-lenient_end.ensures.read))
