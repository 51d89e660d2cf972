use Rattle.std.proofs.Common.{◌∙◌}
use Rattle.time_below.specs.Calendar.{day_number}
use Rattle.time_below.proofs.DayLemmas.{earlier_date}
use Rattle.time_below.proofs.date.Date.before.Goals as goal

pub returns : goal.returns
returns c =
    c.from_days.ensures
    ∙ earlier_date (day_number c.args.self) c.days_from_start.result c.args.days c.days_from_start.ensures.value c.requires
