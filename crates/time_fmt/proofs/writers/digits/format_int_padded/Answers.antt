use Rattle.std.proofs.Common.{arith}
use Rattle.time_fmt.proofs.TextLemmas.{zeros_before}
use Rattle.time_fmt.proofs.writers.digits.format_int_padded.Goals as goal

pub write_zeros-zeros-requires : goal.write_zeros-zeros-requires
write_zeros-zeros-requires g c = grind (arith, zeros_before)

pub write-requires : goal.write-requires
write-requires g c = grind (arith, zeros_before)

pub overflow_add-result : goal.overflow_add-result
overflow_add-result g c = grind (arith, zeros_before)

pub returns : goal.returns
returns g c = grind (arith, zeros_before)
