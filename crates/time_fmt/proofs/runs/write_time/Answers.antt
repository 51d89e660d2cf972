use Rattle.time_fmt.proofs.Steps.{steps}
use Rattle.time_fmt.proofs.runs.write_time.Goals as goal

pub write_two_after-requires : goal.write_two_after-requires
write_two_after-requires g c = grind steps

pub overflow_add-result : goal.overflow_add-result
overflow_add-result g c = grind steps

pub returns : goal.returns
returns g c = grind steps
