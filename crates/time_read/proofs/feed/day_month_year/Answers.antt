use Rattle.time_read.proofs.MailTexts.{front_join}
use Rattle.time_read.proofs.feed.day_month_year.Goals as goal

pub returns-clause-read : goal.returns-clause-read
returns-clause-read c =
    front_join c.in-Ok.ensures.read (front_join c.in-Ok-gap.ensures.read (front_join c.in-Ok-month.ensures.read
    (front_join c.in-Ok-gap-2.ensures.read c.in-Ok-year.ensures.read)))
