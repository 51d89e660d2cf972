use Rattle.std.proofs.Common.{arith}
use Rattle.time_below.proofs.OffsetLemmas.{held_word}
use Rattle.time_below.proofs.date.Date.replace_month.Goals as goal

pub returns-clause-accepted : goal.returns-clause-accepted
returns-clause-accepted c =
    let date = c.to_calendar_date-year.ensures in
    let range = rw date.year at date.year_range in
    let held = held_word c.args.self.year (omega (arith, range)) in
    let told = simp (held, date.year, date.day) at c.from_calendar_date.ensures.accepted in
    (λ ok. (told.0 ok).1, λ day. told.1 (range, day))

pub returns-clause-value : goal.returns-clause-value
returns-clause-value c =
    let date = c.to_calendar_date-year.ensures in
    let range = rw date.year at date.year_range in
    let held = held_word c.args.self.year (omega (arith, range)) in
    simp (held, date.year, date.day) at c.from_calendar_date.ensures.value
