use Rattle.std.proofs.Common.{arith}
use Rattle.time_read.proofs.Fractions.{digit_next}
use Rattle.time_read.proofs.decimals.number_of.Goals as goal

pub overflow_mul-number : goal.overflow_mul-number
overflow_mul-number c =
    let next = digit_next c.args.digits.now c.loop-digit.digit-index c.requires.digits c.loop-digit-test.true in
    omega (arith, next.small (omega (arith, c.requires.few, c.loop-digit-test.true)), c.loop-digit.invariant)

pub overflow_sub-number : goal.overflow_sub-number
overflow_sub-number c =
    let next = digit_next c.args.digits.now c.loop-digit.digit-index c.requires.digits c.loop-digit-test.true in
    omega (arith, next.digit)

pub overflow_add-number : goal.overflow_add-number
overflow_add-number c =
    let next = digit_next c.args.digits.now c.loop-digit.digit-index c.requires.digits c.loop-digit-test.true in
    omega (arith, next.digit, next.small (omega (arith, c.requires.few, c.loop-digit-test.true)), c.loop-digit.invariant)

pub loop-digit-preserved : goal.loop-digit-preserved
loop-digit-preserved c =
    let next = digit_next c.args.digits.now c.loop-digit.digit-index c.requires.digits c.loop-digit-test.true in
    omega (arith, next.digit, next.value, c.loop-digit.invariant)
