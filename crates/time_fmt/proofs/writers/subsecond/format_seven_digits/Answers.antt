use Rattle.std.proofs.Common.{arith}
use Rattle.time_fmt.proofs.DecimalLemmas.{two_parts}
use Rattle.time_fmt.proofs.writers.subsecond.format_seven_digits.Goals as goal

pub format_single_digit-first-requires : goal.format_single_digit-first-requires
format_single_digit-first-requires g c = grind (arith, two_parts)

pub format_six_digits_pad_zero-requires : goal.format_six_digits_pad_zero-requires
format_six_digits_pad_zero-requires g c = grind (arith, two_parts)

pub overflow_add-result : goal.overflow_add-result
overflow_add-result g c = grind (arith, two_parts)

pub returns : goal.returns
returns g c = grind (arith, two_parts)
