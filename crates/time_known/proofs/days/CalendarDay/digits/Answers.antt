use Rattle.std.proofs.Common.{arith}
use Rattle.time_known.proofs.DayLemmas.{month_digits, day_digits, table_length, table_ascii}
use Rattle.time_known.proofs.days.CalendarDay.digits.Goals as goal

pub returns : goal.returns
returns c = grind (arith, month_digits, day_digits, table_length, table_ascii)
