use Rattle.std.proofs.Common.{arith, refl, ap, ◌∙◌, drop}
use Rattle.std.proofs.lemmas.List.{take_rest}
use Rattle.time_read.proofs.Fractions.{at_fraction}
use Rattle.time_read.proofs.Tails.{point_fault}
use Rattle.time_read.proofs.tail.decimals.Goals as goal

pub returns-then-count-eq0-clause-fault : goal.returns-then-count-eq0-clause-fault
returns-then-count-eq0-clause-fault c =
    point_fault c.args.profile _ c.args.text.now _ refl refl refl
    (λ b after e. c.nanosecond-nanosecond.ensures.digits.end (omega arith) b after
    (ap (λ k. drop k c.args.text.now) c.if-count-eq0.true ∙ e))

pub returns-clause-read : goal.returns-clause-read
returns-clause-read c =
    let e = c.nanosecond-nanosecond.ensures in
    rw (e.value) (at_fraction c.args.profile c.args.text.now c.nanosecond-nanosecond.result.1 _ e.digits (omega arith)
    (rw (take_rest c.args.text.now c.nanosecond-nanosecond.result.1) at c.skip.ensures))
