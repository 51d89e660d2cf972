use Rattle.time_fmt.proofs.Steps.{steps}
use Rattle.time_fmt.proofs.runs.write_two_after.Goals as goal

pub returns : goal.returns
returns g c = grind steps
