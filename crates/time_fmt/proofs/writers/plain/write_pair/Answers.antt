use Rattle.time_fmt.proofs.Steps.{steps}
use Rattle.time_fmt.proofs.writers.plain.write_pair.Goals as goal

pub returns : goal.returns
returns g c = grind steps
