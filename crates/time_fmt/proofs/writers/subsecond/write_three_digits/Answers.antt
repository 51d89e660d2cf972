use Rattle.time_fmt.proofs.Steps.{steps}
use Rattle.time_fmt.proofs.writers.subsecond.write_three_digits.Goals as goal

pub bounds-as_bytes-0 : goal.bounds-as_bytes-0
bounds-as_bytes-0 g c = grind steps

pub write_pair-requires : goal.write_pair-requires
write_pair-requires g c = grind steps

pub overflow_add-result : goal.overflow_add-result
overflow_add-result g c = grind steps

pub returns : goal.returns
returns g c = grind steps
