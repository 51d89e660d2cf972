use Rattle.time_fmt.proofs.Steps.{steps}
use Rattle.time_fmt.proofs.writers.plain.write_bytes.Goals as goal

pub returns-in-empty : goal.returns-in-empty
returns-in-empty g c = grind steps

pub returns-in-len1 : goal.returns-in-len1
returns-in-len1 g c = grind steps

pub returns-in-len2 : goal.returns-in-len2
returns-in-len2 g c = grind steps
