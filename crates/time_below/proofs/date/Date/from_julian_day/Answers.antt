use Rattle.std.proofs.Common.{arith}
use Rattle.std.proofs.lemmas.Int.{ints}
use Rattle.time_below.proofs.DayLemmas.{julian_back}
use Rattle.time_below.proofs.date.Date.from_julian_day.Goals as goal

pub returns-clause-value : goal.returns-clause-value
returns-clause-value c = julian_back c.args.julian_day _ c.from_days.result (omega (arith, ints)) c.from_days.ensures
