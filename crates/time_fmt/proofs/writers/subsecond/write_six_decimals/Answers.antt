use Rattle.time_fmt.proofs.DecimalLemmas.{six_digits}
use Rattle.time_fmt.proofs.Steps.{steps}
use Rattle.time_fmt.proofs.writers.subsecond.write_six_decimals.Goals as goal

pub returns : goal.returns
returns g c = grind (steps, six_digits)
