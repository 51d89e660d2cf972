use Rattle.std.proofs.Common.{arith}
use Rattle.time_fmt.proofs.NumberLemmas.{four_after}
use Rattle.time_fmt.proofs.writers.digits.write_at_most_eight.Goals as goal

pub write_many-count-requires : goal.write_many-count-requires
write_many-count-requires g c = grind (arith, four_after)

pub format_four_digits_pad_zero-requires : goal.format_four_digits_pad_zero-requires
format_four_digits_pad_zero-requires g c = grind (arith, four_after)

pub returns : goal.returns
returns g c = grind (arith, four_after)
