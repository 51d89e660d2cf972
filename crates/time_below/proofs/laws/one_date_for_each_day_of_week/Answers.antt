use Rattle.time_below.proofs.WeekLemmas.{same_week_day}
use Rattle.time_below.proofs.laws.one_date_for_each_day_of_week.Goals as goal

pub returns-clause-date : goal.returns-clause-date
returns-clause-date c = same_week_day
