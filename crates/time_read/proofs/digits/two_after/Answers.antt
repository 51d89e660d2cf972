use Rattle.time_read.proofs.Numbers.{front_byte, no_two_after}
use Rattle.time_read.proofs.digits.two_after.Goals as goal

pub returns-in_default-two_within-clause-none : goal.returns-in_default-two_within-clause-none
returns-in_default-two_within-clause-none c =
    no_two_after c.args.before c.args.least c.args.greatest c.args.text.now _ c.in-Some.ensures.some
    c.in_default-two_within.ensures.none

pub returns-clause-read : goal.returns-clause-read
returns-clause-read c = front_byte c.args.before c.in-Some.ensures.some c.in-Some-two_within.ensures.read
