use Rattle.std.proofs.Common.{arith}
use Rattle.time_fmt.proofs.TrimLemmas.{usual_decimals}
use Rattle.time_fmt.proofs.writers.time.fmt_subsecond.Goals as goal

pub write_three_decimals-requires : goal.write_three_decimals-requires
write_three_decimals-requires g c = grind (arith, usual_decimals)

pub write_nine_digits-requires : goal.write_nine_digits-requires
write_nine_digits-requires g c = grind (arith, usual_decimals)

pub returns-in-Nine : goal.returns-in-Nine
returns-in-Nine g c = grind (arith, usual_decimals)
