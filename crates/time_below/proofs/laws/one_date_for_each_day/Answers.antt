use Rattle.time_below.proofs.YearLemmas.{IsDate-date_at}
use Rattle.time_below.proofs.laws.one_date_for_each_day.Goals as goal

pub returns-clause-dated : goal.returns-clause-dated
returns-clause-dated c = IsDate-date_at
