use Rattle.time_read.proofs.Tails.{no_fraction}
use Rattle.time_read.proofs.tail.fraction.Goals as goal

pub returns-in-None-clause-read : goal.returns-in-None-clause-read
returns-in-None-clause-read c = no_fraction c.args.profile c.args.text.now c.in-None.ensures.none
