use Rattle.time_read.proofs.Numbers.{two_first, two_after, two_front}
use Rattle.time_read.proofs.digits.digit_by_digit.Goals as goal

pub returns-in-Err-clause-fault : goal.returns-in-Err-clause-fault
returns-in-Err-clause-fault c =
    two_first c.args.least c.args.greatest c.args.text.now _ (c.requires.order, c.requires.pairs)
    c.in-Err.ensures.fault

pub returns-in-Err-digit-clause-fault : goal.returns-in-Err-digit-clause-fault
returns-in-Err-digit-clause-fault c =
    two_after c.args.least c.args.greatest c.in-Ok.value.0 c.args.text.now _ _
    (c.requires.order, c.requires.pairs) c.in-Ok.ensures.read
    (rw (c.units-first.ensures.first, c.units-first.ensures.last) at c.in-Err-digit.ensures.fault)

pub returns-clause-read : goal.returns-clause-read
returns-clause-read c =
    two_front c.args.least c.args.greatest c.in-Ok.value.0 c.in-Ok-digit.value.0 c.args.text.now _ _ c.requires.pairs
    c.in-Ok.ensures.read (rw (c.units-first.ensures.first, c.units-first.ensures.last) at c.in-Ok-digit.ensures.read)
