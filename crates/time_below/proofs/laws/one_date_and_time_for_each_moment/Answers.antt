use Rattle.time_below.proofs.MomentLemmas.{IsDate-utc_date, IsTimestampSecond-unix_seconds}
use Rattle.time_below.proofs.laws.one_date_and_time_for_each_moment.Goals as goal

pub returns-clause-date : goal.returns-clause-date
returns-clause-date c = IsDate-utc_date

pub returns-clause-moment : goal.returns-clause-moment
returns-clause-moment c = IsTimestampSecond-unix_seconds
