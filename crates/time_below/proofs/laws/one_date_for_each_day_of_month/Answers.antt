use Rattle.time_below.proofs.MonthLemmas.{IsDate-date_of}
use Rattle.time_below.proofs.laws.one_date_for_each_day_of_month.Goals as goal

pub returns-clause-date : goal.returns-clause-date
returns-clause-date c = IsDate-date_of
