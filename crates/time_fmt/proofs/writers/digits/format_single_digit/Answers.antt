use Rattle.std.proofs.Common.{arith}
use Rattle.std.proofs.lemmas.Fmt.{decimal_digit}
use Rattle.time_fmt.proofs.writers.digits.format_single_digit.Goals as goal

pub put_byte-requires : goal.put_byte-requires
put_byte-requires g c = grind (arith, decimal_digit)

pub returns : goal.returns
returns g c = grind (arith, decimal_digit)
