use Rattle.std.proofs.Common.{arith}
use Rattle.time_fmt.proofs.TextLemmas.{text_lengths}
use Rattle.time_fmt.proofs.writers.digits.format_two_digits.Goals as goal

pub returns-in-Zero : goal.returns-in-Zero
returns-in-Zero g c = grind (arith, text_lengths)

pub returns-in_default : goal.returns-in_default
returns-in_default g c = grind (arith, text_lengths)
