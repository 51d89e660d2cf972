use Rattle.time_fmt.proofs.Steps.{steps}
use Rattle.time_fmt.proofs.writers.digits.format_four_digits_pad_zero.Goals as goal

pub write_pair-count-requires-clause-pair : goal.write_pair-count-requires-clause-pair
write_pair-count-requires-clause-pair g c = grind steps

pub write_pair-requires : goal.write_pair-requires
write_pair-requires g c = grind steps

pub overflow_add-result : goal.overflow_add-result
overflow_add-result g c = grind steps

pub returns : goal.returns
returns g c = grind steps
