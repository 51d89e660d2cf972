use Rattle.std.proofs.Common.{arith}
use Rattle.time_fmt.proofs.TrimLemmas.{whole_fractions}
use Rattle.time_fmt.proofs.writers.subsecond.write_fraction.Goals as goal

pub write_nine_digits-requires : goal.write_nine_digits-requires
write_nine_digits-requires g c = grind (arith, whole_fractions)

pub returns-then-number-ne0 : goal.returns-then-number-ne0
returns-then-number-ne0 g c = grind (arith, whole_fractions)

pub write_three_decimals-requires : goal.write_three_decimals-requires
write_three_decimals-requires g c = grind (arith, whole_fractions)

pub returns-then-number-ne0-2 : goal.returns-then-number-ne0-2
returns-then-number-ne0-2 g c = grind (arith, whole_fractions)

pub write_six_decimals-requires : goal.write_six_decimals-requires
write_six_decimals-requires g c = grind (arith, whole_fractions)

pub returns-then-number-ne0-3 : goal.returns-then-number-ne0-3
returns-then-number-ne0-3 g c = grind (arith, whole_fractions)
