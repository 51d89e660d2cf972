use Rattle.std.proofs.Common.{arith}
use Rattle.time_lines.proofs.DigitLemmas.{one_more_digit}
use Rattle.time_lines.proofs.number.sum_of.Goals as goal

pub overflow_mul-value : goal.overflow_mul-value
overflow_mul-value c =
    let more = one_more_digit c.args.digits.now c.loop-digit.digit-index c.requires.digits c.loop-digit-test.true in
    omega (arith, more.value, more.small (omega (arith, c.requires.count, c.loop-digit-test.true)), c.loop-digit.invariant)

pub overflow_add-value : goal.overflow_add-value
overflow_add-value c =
    let more = one_more_digit c.args.digits.now c.loop-digit.digit-index c.requires.digits c.loop-digit-test.true in
    omega (
      arith,
      more.value,
      more.small (omega (arith, c.requires.count, c.loop-digit-test.true)),
      c.loop-digit.invariant,
      c.from.ensures,
    )

pub loop-digit-preserved : goal.loop-digit-preserved
loop-digit-preserved c =
    let more = one_more_digit c.args.digits.now c.loop-digit.digit-index c.requires.digits c.loop-digit-test.true in
    omega (arith, more.value, c.loop-digit.invariant, c.from.ensures)
