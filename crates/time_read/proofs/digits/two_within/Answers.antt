use Rattle.std.proofs.Common.{arith}
use Rattle.time_read.proofs.Numbers.{no_two_within, other_two}
use Rattle.time_read.proofs.digits.two_within.Goals as goal

pub returns-in_default-clause-none : goal.returns-in_default-clause-none
returns-in_default-clause-none c =
    no_two_within c.args.least c.args.greatest c.args.text.now c.requires c.in_default.ensures.none

pub returns-then-number-least-clause-none : goal.returns-then-number-least-clause-none
returns-then-number-least-clause-none c =
    other_two c.args.least c.args.greatest _ c.args.text.now _ c.in-Some.ensures.read (λ h k. omega arith)

pub returns-then-greatest-number-clause-none : goal.returns-then-greatest-number-clause-none
returns-then-greatest-number-clause-none c =
    other_two c.args.least c.args.greatest _ c.args.text.now _ c.in-Some.ensures.read (λ h k. omega arith)
