use Rattle.std.proofs.Common.{◌≡◌, arith, refl, subst}
use Rattle.std.specs.Prelude.{IfSome}
use Rattle.time_below.specs.Calendar.{weekday_of}
use Rattle.time_known.specs.Values.{OrdinalDate}
use Rattle.time_read.proofs.Fields.{front_as}
use Rattle.time_read.proofs.MailTexts.{front_join}
use Rattle.time_read.proofs.rfc2822.lenient_date.Goals as goal

pub returns-clause-read : goal.returns-clause-read
returns-clause-read c =
    front_as (λ t s. record {
      weekday = c.in-Ok.value.0;
      day = c.in-Ok-day_month_year.value.0;
      place = c.in-Ok-day_month_year.value.1;
      year = c.in-Ok-day_month_year.value.2;
      spelled = s;
      day_fits = (c.in-Ok-day_month_year.ensures.day.0, omega (arith, c.days_of_month.ensures.days));
      is = refl;
      named = subst (λ (d : OrdinalDate). IfSome c.in-Ok.value.0 (λ w. w ≡ weekday_of d)) c.date_of-date.ensures (c.if-is_other_weekday.ensures refl);
    })
    (front_join c.in-Ok.ensures.read c.in-Ok-day_month_year.ensures.read)
