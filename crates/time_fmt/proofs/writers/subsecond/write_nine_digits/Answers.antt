use Rattle.std.proofs.Common.{arith}
use Rattle.time_fmt.proofs.DecimalLemmas.{nine_digits}
use Rattle.time_fmt.proofs.writers.subsecond.write_nine_digits.Goals as goal

pub returns : goal.returns
returns g c = grind (arith, nine_digits)

pub format_single_digit-first-requires : goal.format_single_digit-first-requires
format_single_digit-first-requires g c = grind (arith, nine_digits)

pub format_four_digits_pad_zero-requires : goal.format_four_digits_pad_zero-requires
format_four_digits_pad_zero-requires g c = grind (arith, nine_digits)

pub overflow_add-count : goal.overflow_add-count
overflow_add-count g c = grind (arith, nine_digits)

pub format_four_digits_pad_zero-requires-2 : goal.format_four_digits_pad_zero-requires-2
format_four_digits_pad_zero-requires-2 g c = grind (arith, nine_digits)

pub overflow_add-result : goal.overflow_add-result
overflow_add-result g c = grind (arith, nine_digits)
