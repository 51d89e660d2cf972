use Rattle.std.proofs.Common.{refl}
use Rattle.time_read.proofs.Fields.{front_as}
use Rattle.time_read.proofs.MailTexts.{front_join}
use Rattle.time_read.proofs.rfc2822.lenient_clock.Goals as goal

pub returns-clause-read : goal.returns-clause-read
returns-clause-read c =
    front_as (λ t s. (s, refl)) (front_join c.in-Ok.ensures.read
    (front_join c.in-Ok-mark.ensures.read (front_join c.in-Ok-two.ensures.read c.in-Ok-second.ensures.read)))
