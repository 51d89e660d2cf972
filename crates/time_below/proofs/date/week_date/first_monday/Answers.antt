use Rattle.std.proofs.Common.{arith}
use Rattle.time_below.proofs.OffsetLemmas.{held_word}
use Rattle.time_below.proofs.WeekDateLemmas.{first_monday_from_start}
use Rattle.time_below.proofs.date.week_date.first_monday.Goals as goal

pub returns-clause-value : goal.returns-clause-value
returns-clause-value c =
    let held = held_word c.args.year (omega arith) in
    first_monday_from_start c.args.year c.days_from_start-fourth.result
    (rw held at c.days_from_start-fourth.ensures.value)
