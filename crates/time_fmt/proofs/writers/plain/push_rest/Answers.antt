use Rattle.time_fmt.proofs.Steps.{steps}
use Rattle.time_fmt.proofs.writers.plain.push_rest.Goals as goal

pub returns-then-bytes-lt1 : goal.returns-then-bytes-lt1
returns-then-bytes-lt1 g c = grind steps

pub returns-in-len1 : goal.returns-in-len1
returns-in-len1 g c = grind steps

pub returns-in-len2 : goal.returns-in-len2
returns-in-len2 g c = grind steps

pub returns-in-len3 : goal.returns-in-len3
returns-in-len3 g c = grind steps
