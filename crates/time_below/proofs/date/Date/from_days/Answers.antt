use Rattle.std.proofs.Common.{arith}
use Rattle.time_below.proofs.CalendarLemmas.{date_at_from_start}
use Rattle.time_below.proofs.date.Date.from_days.Goals as goal

pub returns : goal.returns
returns c = grind (arith, date_at_from_start)
