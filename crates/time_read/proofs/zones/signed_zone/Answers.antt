use Rattle.std.proofs.Common.{arith, refl}
use Rattle.time_read.proofs.Fields.{front_as}
use Rattle.time_read.proofs.MailTexts.{front_join}
use Rattle.time_read.proofs.zones.signed_zone.Goals as goal

pub returns-clause-read : goal.returns-clause-read
returns-clause-read c =
    front_as (λ t s. record {
      is_negative = c.in-Ok.is_negative;
      hour = c.in-Some.hours;
      minute = c.in-Some-two_within.minutes;
      spelled = s;
      hour_fits = c.in-Some.ensures.range;
      minute_fits = omega (arith, c.in-Some-two_within.ensures.range);
      is = refl;
    })
    (front_join c.in-Ok.ensures.read
    (front_join (front_as (λ t s. s.0) c.in-Some.ensures.read) (front_as (λ t s. s.0) c.in-Some-two_within.ensures.read)))
