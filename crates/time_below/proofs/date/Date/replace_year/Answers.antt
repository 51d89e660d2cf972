use Rattle.std.proofs.Common.{◌≡◌, arith, w32, to_z, of_z}
use Rattle.std.proofs.lemmas.Int.{ints}
use Rattle.time_below.proofs.date.Date.replace_year.Goals as goal

pub returns-clause-accepted : goal.returns-clause-accepted
returns-clause-accepted c =
    let held : to_z w32 (of_z w32 c.args.year) ≡ c.args.year = omega (arith, ints) in
    let date = c.to_calendar_date-month.ensures in
    simp (held, date.month, date.day) at c.from_calendar_date.ensures.accepted

pub returns-clause-value : goal.returns-clause-value
returns-clause-value c =
    let held : to_z w32 (of_z w32 c.args.year) ≡ c.args.year = omega (arith, ints) in
    let date = c.to_calendar_date-month.ensures in
    simp (held, date.month, date.day) at c.from_calendar_date.ensures.value

pub returns-clause-refusal : goal.returns-clause-refusal
returns-clause-refusal c =
    let held : to_z w32 (of_z w32 c.args.year) ≡ c.args.year = omega (arith, ints) in
    simp held at c.from_calendar_date.ensures.refusal
