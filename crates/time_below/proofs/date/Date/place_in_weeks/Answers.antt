use Rattle.std.proofs.Common.{arith}
use Rattle.time_below.proofs.CalendarLemmas.{weekday_by_years}
use Rattle.time_below.proofs.date.Date.place_in_weeks.Goals as goal

pub returns-clause-value : goal.returns-clause-value
returns-clause-value c = grind (arith, weekday_by_years)
