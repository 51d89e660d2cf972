use Rattle.time_fmt.proofs.Steps.{steps}
use Rattle.time_fmt.proofs.writers.digits.write_zeros.Goals as goal

pub loop-preserved : goal.loop-preserved
loop-preserved g c = grind steps

pub returns : goal.returns
returns g c = grind steps
