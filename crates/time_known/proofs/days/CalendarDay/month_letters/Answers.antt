use Rattle.std.proofs.Common.{arith}
use Rattle.time_known.proofs.DayLemmas.{name_letters, table_length, table_ascii}
use Rattle.time_known.proofs.days.CalendarDay.month_letters.Goals as goal

pub returns : goal.returns
returns c = grind (arith, name_letters, table_length, table_ascii)
