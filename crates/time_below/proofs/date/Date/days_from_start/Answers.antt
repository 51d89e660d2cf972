use Rattle.std.proofs.Common.{arith}
use Rattle.time_below.proofs.CalendarLemmas.{day_number_from_start}
use Rattle.time_below.proofs.YearLemmas.{days_before_end, IsDayNumber-day_number}
use Rattle.time_below.proofs.date.Date.days_from_start.Goals as goal

pub returns-clause-value : goal.returns-clause-value
returns-clause-value c = grind (arith, day_number_from_start)

pub returns-clause-range : goal.returns-clause-range
returns-clause-range c = grind (arith, day_number_from_start, days_before_end, IsDayNumber-day_number)
