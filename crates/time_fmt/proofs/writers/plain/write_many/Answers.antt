use Rattle.time_fmt.proofs.Steps.{steps}
use Rattle.time_fmt.proofs.writers.plain.write_many.Goals as goal

pub write-sum-requires : goal.write-sum-requires
write-sum-requires g c = grind steps

pub overflow_add-sum : goal.overflow_add-sum
overflow_add-sum g c = grind steps

pub loop-text-preserved : goal.loop-text-preserved
loop-text-preserved g c = grind steps

pub returns : goal.returns
returns g c = grind steps
