-- Dates of the week calendar (ISO 8601-1:2019, 5.2.4): a week has seven days from Monday on, and belongs to
-- the year that its Thursday lies in.
use Rattle.std.specs.Prelude.{ℕ, ◌+◌, ◌-◌, ◌*◌, ℤ, pos, ◌+ℤ◌, ◌-ℤ◌}
use Rattle.time_below.specs.Calendar.{OrdinalDate, days_in_year, day_number, weekday_of, days_of_name}

-- the weeks of a year, which are as many as its Thursdays: 52 or 53
unfoldable pub weeks_in_year : ℤ → ℕ
weeks_in_year y = days_of_name 3 y (days_in_year y)

-- the day number of the Monday of week 1, the week of 4 January
unfoldable pub first_monday : ℤ → ℤ
first_monday y =
    let fourth : OrdinalDate = record { year = y; ordinal = 4 } in
    day_number fourth -ℤ pos (weekday_of fourth)

-- the day number of a weekday of a week, by the days from Monday
unfoldable pub week_day_number : ℤ → ℕ → ℕ → ℤ
week_day_number y week weekday = first_monday y +ℤ pos (7 * (week - 1) + weekday)
