use Rattle.std.proofs.Common.{arith}
use Rattle.time_fmt.proofs.NumberLemmas.{eight_digits}
use Rattle.time_fmt.proofs.writers.digits.write_eight_digits.Goals as goal

pub returns : goal.returns
returns g c = grind (arith, eight_digits)
