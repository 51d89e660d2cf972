use Rattle.time_read.proofs.MailTexts.{front_join}
use Rattle.time_read.proofs.feed.weekday.Goals as goal

pub returns-clause-read : goal.returns-clause-read
returns-clause-read c = front_join c.in-Some.ensures.read c.in-Ok.ensures.read
