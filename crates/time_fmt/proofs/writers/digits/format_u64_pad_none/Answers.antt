use Rattle.std.proofs.Common.{arith}
use Rattle.time_fmt.proofs.NumberLemmas.{eight_after}
use Rattle.time_fmt.proofs.writers.digits.format_u64_pad_none.Goals as goal

pub returns : goal.returns
returns g c = grind (arith, eight_after)

pub overflow_add-result : goal.overflow_add-result
overflow_add-result g c = grind (arith, eight_after)

pub write_at_most_eight-count-requires-clause-room : goal.write_at_most_eight-count-requires-clause-room
write_at_most_eight-count-requires-clause-room g c = grind (arith, eight_after)

pub write_eight_digits-last-requires-clause-room : goal.write_eight_digits-last-requires-clause-room
write_eight_digits-last-requires-clause-room g c = grind (arith, eight_after)
