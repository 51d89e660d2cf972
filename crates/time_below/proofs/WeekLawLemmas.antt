-- The week, the year and the weekday of the date that a week date is.
use Rattle.std.proofs.Common.{◌≡◌, ℕ, suc, ◌+◌, ◌-◌, ◌*◌, ◌/◌, ◌%◌, ◌<◌, ◌≤◌, ◌==◌, sym, ap, ◌∙◌, arith, ℤ, pos, ◌+ℤ◌}
use Rattle.std.proofs.Common.{unsigned_abs}
use Rattle.std.proofs.lemmas.Bool.Decides.{nat_tests}
use Rattle.std.proofs.lemmas.Int.{ints}
use Rattle.std.specs.Int.{IsInRange}
use Rattle.time_below.specs.Calendar.{OrdinalDate, IsDate, IsYear, IsDayNumber, day_number, date_at, weekday_of, thursday_of}
use Rattle.time_below.specs.Calendar.{iso_year_of, iso_week_of, days_before, greatest_year, days_in_year}
use Rattle.time_below.specs.WeekDate.{weeks_in_year, first_monday, week_day_number}
use Rattle.time_below.proofs.CalendarLemmas.{days_of_years, day_number_from_start, weekday_from_start}
use Rattle.time_below.proofs.WeekCountLemmas.{days_of_name_counted, sevenths_after}
use Rattle.time_below.proofs.WeekLemmas.{thursday_counted, IsDate-thursday_of}
use Rattle.time_below.proofs.YearLemmas.{years_from_start, days_in_year_at, same_year, IsDate-date_at, day_number_back}

-- the day of the first Monday of a year, by the days to the year
abbrev monday_after : ℕ → ℕ
monday_after days = days + 3 - (days + 3) % 7

-- the first Monday of a year, by the days from the start
first_from_start : (y : ℤ) (m : ℕ) → y +ℤ pos greatest_year ≡ pos m
    → first_monday y +ℤ pos days_before ≡ pos (monday_after (days_of_years m))
unfolding first_monday
first_from_start y m e =
    let fourth : OrdinalDate = record { year = y; ordinal = 4 } in
    let here = day_number_from_start fourth m e (omega arith) in
    let rest = weekday_from_start (day_number fourth) (days_of_years m + 3) (omega (arith, ints, here)) in
    omega (arith, ints, here, rest)

-- a day of the year is a Thursday where seven divides its place
thursday_at : (y : ℤ) (m k : ℕ) → y +ℤ pos greatest_year ≡ pos m
    → (weekday_of (record { year = y; ordinal = suc k }) == 3) ≡ ((days_of_years m + 4 + k) % 7 == 0)
thursday_at y m k e = grind (arith, nat_tests, day_number_from_start, weekday_from_start)

-- the Thursdays of a year
thursdays : (y : ℤ) (m : ℕ) → y +ℤ pos greatest_year ≡ pos m
    → weeks_in_year y ≡ sevenths_after (days_of_years m + 4) (days_in_year y)
unfolding weeks_in_year
thursdays y m e = days_of_name_counted 3 y (days_of_years m + 4) (λ k. thursday_at y m k e) (days_in_year y)

-- the Thursday of a week of the year lies in the year
not_before_year : (days week : ℕ) → days ≤ monday_after days + 7 * (week - 1) + 3
not_before_year days week = omega arith

not_after_year : (days length week : ℕ) → 1 ≤ week → week ≤ sevenths_after (days + 4) length
    → monday_after days + 7 * (week - 1) + 3 < days + length
not_after_year days length week one within = omega arith

-- a weekday of a week, and the Thursday of that week
rest_of_day : (days week weekday : ℕ) → weekday < 7 → (monday_after days + (7 * (week - 1) + weekday)) % 7 ≡ weekday
rest_of_day days week weekday h = omega arith

thursday_of_day : (days week weekday n : ℕ) → weekday < 7 → n ≡ monday_after days + (7 * (week - 1) + weekday)
    → n - n % 7 + 3 ≡ monday_after days + 7 * (week - 1) + 3
thursday_of_day days week weekday n h e = omega arith

-- the week of a Thursday, by its place in the year
week_of_thursday : (days week ordinal : ℕ) → 1 ≤ week → 1 ≤ ordinal
    → monday_after days + 7 * (week - 1) + 3 ≡ days + ordinal - 1 → (ordinal - 1) / 7 + 1 ≡ week
week_of_thursday days week ordinal one first e = omega arith

-- the year and the week of a date whose Thursday is this one
record IsInWeek (y : ℤ) (week : ℕ) (d : OrdinalDate) : Type 0 where
  pub year : iso_year_of d ≡ y
  pub week_there : iso_week_of d ≡ week

-- a date whose week has this Thursday is in that week
in_week : (y : ℤ) (week m n : ℕ) (d : OrdinalDate) → y +ℤ pos greatest_year ≡ pos m → IsYear y → 1 ≤ week
    → week ≤ weeks_in_year y → IsDate d → day_number d +ℤ pos days_before ≡ pos n
    → n - n % 7 + 3 ≡ monday_after (days_of_years m) + 7 * (week - 1) + 3 → IsInWeek y week d
in_week y week m n d e year one within h number thursday =
    let k = unsigned_abs ((thursday_of d).year +ℤ pos greatest_year) in
    let t = IsDate-thursday_of d h in
    let q = years_from_start (thursday_of d).year t.0 in
    let counted = thursday_counted d n k h number q in
    let there = days_in_year_at (thursday_of d).year k q in
    let here = days_in_year_at y m e in
    let fits : week ≤ sevenths_after (days_of_years m + 4) (days_in_year y) = omega (arith, thursdays y m e) in
    let before = not_before_year (days_of_years m) week in
    let after = not_after_year (days_of_years m) (days_in_year y) week one fits in
    let low : days_of_years k ≤ n - n % 7 + 3 = omega (arith, counted, t.1.0) in
    let high : n - n % 7 + 3 < days_of_years (k + 1) = omega (arith, counted, there, t.1.0, t.1.1) in
    let same : k ≡ m =
    same_year k m (n - n % 7 + 3) low high (omega (arith, thursday, before)) (omega (arith, thursday, after, here)) in
    let days = ap days_of_years same in
    record {
      year = omega (arith, ints, q, e, same);
      week_there = week_of_thursday (days_of_years m) week (thursday_of d).ordinal one t.1.0 (omega (arith, thursday, counted, days));
    }

-- the date of a week date has that weekday, week and year
pub week_date_parts : (y : ℤ) (week weekday : ℕ) → IsYear y → IsInRange 1 (weeks_in_year y) week → weekday < 7
    → IsDayNumber (week_day_number y week weekday)
    → (iso_year_of (date_at (week_day_number y week weekday)) ≡ y)
    × (iso_week_of (date_at (week_day_number y week weekday)) ≡ week)
    × (weekday_of (date_at (week_day_number y week weekday)) ≡ weekday)
unfolding week_day_number
week_date_parts y week weekday year weeks below h =
    let z = week_day_number y week weekday in
    let m = unsigned_abs (y +ℤ pos greatest_year) in
    let e = years_from_start y year in
    let n = monday_after (days_of_years m) + (7 * (week - 1) + weekday) in
    let first = first_from_start y m e in
    let from_start : z +ℤ pos days_before ≡ pos n = omega (arith, ints, first) in
    let number = ap (λ x. x +ℤ pos days_before) (day_number_back z h) ∙ from_start in
    let found = in_week y week m n (date_at z) e year weeks.0 weeks.1 (IsDate-date_at z h) number
    (thursday_of_day (days_of_years m) week weekday n below (omega arith)) in (
      found.year,
      found.week_there,
      weekday_from_start (day_number (date_at z)) n (sym number) ∙ rest_of_day (days_of_years m) week weekday below,
    )
