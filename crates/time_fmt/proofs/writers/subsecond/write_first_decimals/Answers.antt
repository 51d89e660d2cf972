use Rattle.std.proofs.Common.{arith}
use Rattle.time_fmt.proofs.DecimalLemmas.{first_decimals}
use Rattle.time_fmt.proofs.writers.subsecond.write_first_decimals.Goals as goal

pub format_single_digit-requires : goal.format_single_digit-requires
format_single_digit-requires g c = grind (arith, first_decimals)

pub format_two_digits-requires : goal.format_two_digits-requires
format_two_digits-requires g c = grind (arith, first_decimals)

pub write_three_decimals-requires : goal.write_three_decimals-requires
write_three_decimals-requires g c = grind (arith, first_decimals)

pub format_four_digits_pad_zero-requires : goal.format_four_digits_pad_zero-requires
format_four_digits_pad_zero-requires g c = grind (arith, first_decimals)

pub format_five_digits_pad_zero-requires : goal.format_five_digits_pad_zero-requires
format_five_digits_pad_zero-requires g c = grind (arith, first_decimals)

pub write_six_decimals-requires : goal.write_six_decimals-requires
write_six_decimals-requires g c = grind (arith, first_decimals)

pub format_seven_digits-requires-clause-room : goal.format_seven_digits-requires-clause-room
format_seven_digits-requires-clause-room g c = grind (arith, first_decimals)

pub write_eight_digits-requires-clause-room : goal.write_eight_digits-requires-clause-room
write_eight_digits-requires-clause-room g c = grind (arith, first_decimals)

pub write_nine_digits-requires : goal.write_nine_digits-requires
write_nine_digits-requires g c = grind (arith, first_decimals)

pub returns-in-One : goal.returns-in-One
returns-in-One g c = grind (arith, first_decimals)

pub returns-in-Two : goal.returns-in-Two
returns-in-Two g c = grind (arith, first_decimals)

pub returns-in-Four : goal.returns-in-Four
returns-in-Four g c = grind (arith, first_decimals)

pub returns-in-Five : goal.returns-in-Five
returns-in-Five g c = grind (arith, first_decimals)

pub returns-in-Seven : goal.returns-in-Seven
returns-in-Seven g c = grind (arith, first_decimals)

pub returns-in-Eight : goal.returns-in-Eight
returns-in-Eight g c = grind (arith, first_decimals)

pub returns-in-Nine : goal.returns-in-Nine
returns-in-Nine g c = grind (arith, first_decimals)
