use Rattle.std.proofs.Common.{◌≡◌, refl, arith, w32, to_z, of_z}
use Rattle.std.proofs.lemmas.Int.{ints}
use Rattle.time_below.proofs.WeekDateLemmas.{week_days, is_week_day_numbered}
use Rattle.time_below.proofs.date.Date.from_iso_week_date.Goals as goal

pub returns-then-days-ge-ALL_DAYS-clause-accepted :
    goal.returns-then-days-ge-ALL_DAYS-clause-accepted
returns-then-days-ge-ALL_DAYS-clause-accepted c = grind (arith, week_days)

pub returns-clause-accepted : goal.returns-clause-accepted
returns-clause-accepted c =
    let held : to_z w32 (of_z w32 c.args.year) ≡ c.args.year = omega (arith, ints) in
    let weeks = rw held at c.weeks_in_year.ensures.value in
    let first = rw held at c.first_monday.ensures.value in
    let found = c.number_days_from_monday.ensures.value in (
      λ _. (
        rw held at (c.is_year.ensures.0 c.if-not-is_year.false),
        (omega arith, omega (arith, weeks)),
        is_week_day_numbered c.args.year c.args.week _ c.first_monday.result _ first found (omega arith),
      ),
      λ _. refl,
    )

pub returns-clause-value : goal.returns-clause-value
returns-clause-value c = grind (arith, week_days)
