-- The weeks of a year, and the dates of the week calendar.
use Rattle.std.proofs.Common.{◌≡◌, ℕ, suc, ◌+◌, ◌-◌, ◌*◌, ◌/◌, ◌%◌, ◌<◌, ◌≤◌, ◌==◌, ◌||◌, ◌&&◌, if◌then◌else◌, sym, ap, ◌∙◌, arith}
use Rattle.std.proofs.Common.{ℤ, pos, ◌+ℤ◌, ◌-ℤ◌, ◌*ℤ◌, unsigned_abs, to_z-of_z}
use Rattle.std.proofs.lemmas.Bool.Decides.{nat_tests}
use Rattle.std.proofs.lemmas.Grind.{common_steps}
use Rattle.std.proofs.lemmas.Int.{ints}
use Rattle.std.specs.Int.{int_rem_euclid, int_div_euclid}
use Rattle.time_below.specs.Calendar.{IsDayNumber, day_number, days_before, days_in_all, weekday_of, days_in_year}
use Rattle.time_below.specs.Calendar.{is_leap_year}
use Rattle.time_below.specs.WeekDate.{weeks_in_year, first_monday, week_day_number}
use Rattle.time_below.proofs.CalendarLemmas.{days_of_years, weekday_from_start}
use Rattle.time_below.proofs.DayLemmas.{date_after, is_numbered, is_before_end}
use Rattle.time_below.proofs.WeekCountLemmas.{days_of_name_counted, sevenths_after}

-- how many years a year is after the last one that begins 400 years
abbrev pub years_past : ℤ → ℕ
years_past y = (unsigned_abs (int_rem_euclid y (pos 400)) + 399) % 400

-- the day number of a day of a year, by those years
day_number_in_400 : (y : ℤ) (k : ℕ) → day_number (record { year = y; ordinal = suc k })
    ≡ pos 146_097 *ℤ int_div_euclid (y -ℤ pos 1) (pos 400) +ℤ pos (days_of_years (years_past y) + k)
day_number_in_400 y k = grind (arith, common_steps, ints)

-- the weekday of a day of a year, since 400 years are whole weeks
weekday_in_400 : (y : ℤ) (k : ℕ)
    → weekday_of (record { year = y; ordinal = suc k }) ≡ (days_of_years (years_past y) + k) % 7
weekday_in_400 y k = grind (arith, common_steps, ints, day_number_in_400)

-- a day is a Thursday where seven divides its place
thursday_at_place : (y : ℤ) (k : ℕ) → (weekday_of (record { year = y; ordinal = suc k }) == 3)
    ≡ ((days_of_years (years_past y) + 4 + k) % 7 == 0)
thursday_at_place y k = grind (arith, nat_tests, weekday_in_400)

-- the Thursdays of a year
weeks_counted : (y : ℤ) → weeks_in_year y ≡ sevenths_after (days_of_years (years_past y) + 4) (days_in_year y)
unfolding weeks_in_year
weeks_counted y =
    days_of_name_counted 3 y (days_of_years (years_past y) + 4) (thursday_at_place y) (days_in_year y)

-- the first day of a year, by its days from Monday
abbrev pub first_day : ℤ → ℕ
first_day y = (years_past y + years_past y / 4 - years_past y / 100) % 7

-- a year has 53 weeks where its first day is a Thursday, or a Wednesday of a leap year
pub weeks_by_first_day : (y : ℤ) → weeks_in_year y
    ≡ (if (first_day y == 3) || ((first_day y == 2) && is_leap_year y) then 53 else 52)
weeks_by_first_day y = grind (arith, common_steps, nat_tests, weeks_counted)

-- a year that begins on another day has 52
pub weeks_of_other_years : (y : ℤ) → ¬ (first_day y ≡ 3) → ¬ (first_day y ≡ 2) → weeks_in_year y ≡ 52
weeks_of_other_years y thursday wednesday = grind (arith, common_steps, nat_tests, weeks_by_first_day)

pub ruleset weeks_of_years = (weeks_by_first_day, weeks_of_other_years)

-- the days from the start to the first Monday, by those to 4 January
pub first_monday_from_start : (y : ℤ) (n : ℕ) → pos n ≡ day_number (record { year = y; ordinal = 4 }) +ℤ pos days_before
    → pos (n - n % 7) ≡ first_monday y +ℤ pos days_before
unfolding first_monday
first_monday_from_start y n e =
    let rest = weekday_from_start (day_number (record { year = y; ordinal = 4 })) n e in
    omega (arith, ints, e, rest)

-- the days from the start to a weekday of a week, by those to the first Monday
pub week_day_from_start : (y : ℤ) (week weekday first found : ℕ) → pos first ≡ first_monday y +ℤ pos days_before
    → found ≡ weekday → pos (first + (7 * (week - 1) + found)) ≡ week_day_number y week weekday +ℤ pos days_before
unfolding week_day_number
week_day_from_start y week weekday first found e same = omega (arith, ints)

-- a weekday of a week before the end has a day number of the calendar
pub is_week_day_numbered : (y : ℤ) (week weekday first found : ℕ) → pos first ≡ first_monday y +ℤ pos days_before
    → found ≡ weekday → first + (7 * (week - 1) + found) < days_in_all → IsDayNumber (week_day_number y week weekday)
is_week_day_numbered y week weekday first found e same h =
    is_numbered _ _ (week_day_from_start y week weekday first found e same) h

-- a weekday that has a day number of the calendar is before the end
pub is_week_day_before_end : (y : ℤ) (week weekday first found : ℕ) → pos first ≡ first_monday y +ℤ pos days_before
    → found ≡ weekday → IsDayNumber (week_day_number y week weekday) → first + (7 * (week - 1) + found) < days_in_all
is_week_day_before_end y week weekday first found e same h =
    is_before_end _ _ (week_day_from_start y week weekday first found e same) h

pub ruleset week_days = (week_day_from_start, date_after, is_week_day_numbered, is_week_day_before_end, to_z-of_z)
