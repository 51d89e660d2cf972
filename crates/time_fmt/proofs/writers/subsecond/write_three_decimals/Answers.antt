use Rattle.std.proofs.Common.{arith}
use Rattle.time_fmt.proofs.DecimalLemmas.{first_decimals}
use Rattle.time_fmt.proofs.writers.subsecond.write_three_decimals.Goals as goal

pub returns : goal.returns
returns g c = grind (arith, first_decimals)
