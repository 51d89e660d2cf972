use Rattle.std.proofs.Common.{◌∙◌}
use Rattle.time_below.specs.Calendar.{day_number}
use Rattle.time_below.proofs.DayLemmas.{later_date, later_before_end}
use Rattle.time_below.proofs.date.Date.after.Goals as goal

pub from_days-requires : goal.from_days-requires
from_days-requires c =
    later_before_end (day_number c.args.self) c.days_from_start.result c.args.days c.days_from_start.ensures.value c.requires

pub returns : goal.returns
returns c =
    c.from_days.ensures
    ∙ later_date (day_number c.args.self) c.days_from_start.result c.args.days c.days_from_start.ensures.value
