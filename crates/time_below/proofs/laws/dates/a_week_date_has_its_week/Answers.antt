use Rattle.time_below.proofs.WeekLawLemmas.{week_date_parts}
use Rattle.time_below.proofs.laws.dates.a_week_date_has_its_week.Goals as goal

pub returns : goal.returns
returns c = week_date_parts
