use Rattle.std.proofs.Common.{◌∙◌}
use Rattle.time_below.proofs.CalendarLemmas.{thursday_from_start}
use Rattle.time_below.proofs.date.Date.thursday.Goals as goal

pub returns : goal.returns
returns c =
    c.from_days.ensures
    ∙ thursday_from_start c.args.self c.days_from_start-days.result c.days_from_start-days.ensures.value
