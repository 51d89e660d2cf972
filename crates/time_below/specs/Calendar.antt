-- The proleptic Gregorian calendar, and the week calendar of ISO 8601-1:2019.
use Rattle.std.specs.Prelude.{ℕ, zero, suc, ◌+◌, ◌-◌, ◌*◌, ◌/◌, ◌%◌, ◌≤◌, Bool, not, ◌&&◌, ◌||◌, ◌==◌, nat_lt}
use Rattle.std.specs.Prelude.{if◌then◌else◌, ℤ, pos, neg_ℤ, ◌+ℤ◌, ◌-ℤ◌, ◌*ℤ◌, ◌≤ℤ◌, unsigned_abs}
use Rattle.std.specs.Int.{IsInRange, int_div_euclid, int_rem_euclid}

-- a date by its year and the day of that year, from 1; the year 0 is the one before the year 1
pub record OrdinalDate : Type 0 where
  pub year : ℤ
  pub ordinal : ℕ

-- the greatest size of a year that a date may have
abbrev pub greatest_year : ℕ
greatest_year = 999_999

-- the days of the years -999,999 to 0, which are 2,500 times 400 years and whole weeks
abbrev pub days_before : ℕ
days_before = 365_242_500

-- the days of the years -999,999 to 999,999
abbrev pub days_in_all : ℕ
days_in_all = 730_484_634

-- divisible by 4 and not by 100, or by 400
abbrev pub is_leap_year : ℤ → Bool
is_leap_year y =
    (unsigned_abs y % 4 == 0) && not (unsigned_abs y % 100 == 0) || (unsigned_abs y % 400 == 0)

-- a leap year has one day more
abbrev pub days_in_year : ℤ → ℕ
days_in_year y = if is_leap_year y then 366 else 365

-- thirty days have April, June, September and November
abbrev pub days_in_month : Bool → ℕ → ℕ
days_in_month is_leap m =
    if m == 2 then (if is_leap then 29 else 28)
    else (if (m == 4) || (m == 6) || (m == 9) || (m == 11) then 30 else 31)

-- the days of the first m months
unfoldable pub days_of_months : Bool → ℕ → ℕ
days_of_months is_leap zero = 0
days_of_months is_leap (suc m) = days_of_months is_leap m + days_in_month is_leap (suc m)

-- the last of the first m months that begins on or before a day of the year
unfoldable pub last_begun : Bool → ℕ → ℕ → ℕ
last_begun is_leap zero ordinal = 0
last_begun is_leap (suc m) ordinal =
    if nat_lt (days_of_months is_leap m) ordinal then suc m else last_begun is_leap m ordinal

-- a year that a date may have
abbrev pub IsYear : ℤ → Type 0
IsYear y = unsigned_abs y ≤ greatest_year

-- a date that the calendar has
abbrev pub IsDate : OrdinalDate → Type 0
IsDate d = IsYear d.year × IsInRange 1 (days_in_year d.year) d.ordinal

-- the days from 0001-01-01 to the first day of the year: 365 each, and a leap day each leap year
abbrev pub days_before_year : ℤ → ℤ
days_before_year y =
    let past = y -ℤ pos 1 in
    pos 365 *ℤ past +ℤ int_div_euclid past (pos 4) -ℤ int_div_euclid past (pos 100)
    +ℤ int_div_euclid past (pos 400)

-- the days from 0001-01-01, a Monday, to the date
abbrev pub day_number : OrdinalDate → ℤ
day_number d = days_before_year d.year +ℤ pos d.ordinal -ℤ pos 1

-- the day number of a date: from -999999-01-01 to 999999-12-31
abbrev pub IsDayNumber : ℤ → Type 0
IsDayNumber n = (neg_ℤ (pos days_before) ≤ℤ n) × (n ≤ℤ pos 365_242_133)

-- the date of a day number: 400 years have 146,097 days, four years 1461. Laws pin it down: each date is
-- the one of its day number, and each day number that of its date
unfoldable pub date_at : ℤ → OrdinalDate
date_at number =
    let quarters = pos 4 *ℤ number +ℤ pos 3 in
    let day_of_century = unsigned_abs (int_rem_euclid quarters (pos 146_097)) / 4 in
    let rest = 4 * day_of_century + 3 in
    record {
      year = pos 100 *ℤ int_div_euclid quarters (pos 146_097) +ℤ pos (rest / 1461 + 1);
      ordinal = rest % 1461 / 4 + 1;
    }

-- the day after: the next of the year, or the first of the next year
abbrev pub next_day : OrdinalDate → OrdinalDate
next_day d =
    if nat_lt d.ordinal (days_in_year d.year) then record { year = d.year; ordinal = d.ordinal + 1 }
    else record { year = d.year +ℤ pos 1; ordinal = 1 }

-- the first date and the last
abbrev pub first_date : OrdinalDate
first_date = record { year = neg_ℤ (pos greatest_year); ordinal = 1 }

abbrev pub last_date : OrdinalDate
last_date = record { year = pos greatest_year; ordinal = 365 }

-- the Julian day number of a date, whose Julian day begins at noon of it
abbrev pub julian_day_of : OrdinalDate → ℤ
julian_day_of d = day_number d +ℤ pos 1_721_426

-- the month of a date, 1 to 12
abbrev pub month_of : OrdinalDate → ℕ
month_of d = last_begun (is_leap_year d.year) 12 d.ordinal

-- the day of its month, from 1
abbrev pub day_of : OrdinalDate → ℕ
day_of d = d.ordinal - days_of_months (is_leap_year d.year) (month_of d - 1)

-- a month has this day
abbrev pub IsDayOfMonth : ℤ → ℕ → ℕ → Type 0
IsDayOfMonth y m d = IsInRange 1 (days_in_month (is_leap_year y) m) d

-- the date of a year, a month and a day
abbrev pub date_of : ℤ → ℕ → ℕ → OrdinalDate
date_of y m d = record { year = y; ordinal = days_of_months (is_leap_year y) (m - 1) + d }

-- the weekday as days from Monday, 0 to 6
abbrev pub weekday_of : OrdinalDate → ℕ
weekday_of d = unsigned_abs (int_rem_euclid (day_number d) (pos 7))

-- the Thursday of the date's week, which begins on Monday
abbrev pub thursday_of : OrdinalDate → OrdinalDate
thursday_of d = date_at (day_number d +ℤ pos 3 -ℤ pos (weekday_of d))

-- the year of the week calendar: the one that most of the week lies in
abbrev pub iso_year_of : OrdinalDate → ℤ
iso_year_of d = (thursday_of d).year

-- the week of that year, 1 to 53
abbrev pub iso_week_of : OrdinalDate → ℕ
iso_week_of d = ((thursday_of d).ordinal - 1) / 7 + 1

-- how many Mondays the year has had by the date, 0 to 53
abbrev pub monday_based_week_of : OrdinalDate → ℕ
monday_based_week_of d = (d.ordinal + 6 - weekday_of d) / 7

-- how many of the first n days of a year are such a weekday, by its days from Monday
unfoldable pub days_of_name : ℕ → ℤ → ℕ → ℕ
days_of_name weekday y zero = 0
days_of_name weekday y (suc n) =
    days_of_name weekday y n
    + (if weekday_of (record { year = y; ordinal = suc n }) == weekday then 1 else 0)

-- the days from Sunday, 0 to 6, of the days from Monday
abbrev pub from_sunday : ℕ → ℕ
from_sunday from_monday = (from_monday + 1) % 7

-- how many Sundays the year has had by the date, 0 to 53
abbrev pub sunday_based_week_of : OrdinalDate → ℕ
sunday_based_week_of d = (d.ordinal + 6 - from_sunday (weekday_of d)) / 7

-- the days from a date to the next weekday of a name, by its days from Monday: 1 to 7
abbrev pub days_to_next : OrdinalDate → ℕ → ℕ
days_to_next d weekday = (weekday + 6 - weekday_of d) % 7 + 1

-- the days from the last weekday of a name to a date: 1 to 7
abbrev pub days_from_last : OrdinalDate → ℕ → ℕ
days_from_last d weekday = (weekday_of d + 6 - weekday) % 7 + 1
