use Rattle.time_read.proofs.MailTexts.{front_join, front_literal}
use Rattle.time_read.proofs.space.mark.Goals as goal

pub returns-clause-read : goal.returns-clause-read
returns-clause-read c =
    front_join c.in-Ok.ensures.read (front_join (front_literal c.args.wanted c.in-Some.ensures.some) c.in-Ok-space.ensures.read)
