use Rattle.std.proofs.Common.{arith}
use Rattle.time_below.proofs.WeekDateLemmas.{weeks_by_first_day, weeks_of_other_years}
use Rattle.time_below.proofs.util.weeks_in_year.Goals as goal

pub returns-then-first_day-eq3-clause-value : goal.returns-then-first_day-eq3-clause-value
returns-then-first_day-eq3-clause-value c = grind (arith, weeks_by_first_day)

pub returns-then-first_day-ne2-clause-value : goal.returns-then-first_day-ne2-clause-value
returns-then-first_day-ne2-clause-value c = grind (arith, weeks_of_other_years)
