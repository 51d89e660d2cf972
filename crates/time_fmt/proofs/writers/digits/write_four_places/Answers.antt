use Rattle.std.proofs.Common.{arith}
use Rattle.time_fmt.proofs.NumberLemmas.{number_lengths}
use Rattle.time_fmt.proofs.writers.digits.write_four_places.Goals as goal

pub format_four_digits_pad_zero-requires : goal.format_four_digits_pad_zero-requires
format_four_digits_pad_zero-requires g c = grind (arith, number_lengths)
