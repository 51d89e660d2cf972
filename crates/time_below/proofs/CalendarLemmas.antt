-- The calendar on numbers that are not negative: years and days are counted from -999999-01-01.
use Rattle.std.proofs.Common.{◌≡◌, ℕ, ◌+◌, ◌-◌, ◌*◌, ◌/◌, ◌%◌, ◌<◌, ◌≤◌, refl, ap, arith, ℤ}
use Rattle.std.proofs.Common.{pos, ◌+ℤ◌, ◌-ℤ◌, unsigned_abs}
use Rattle.std.proofs.lemmas.Int.{ints}
use Rattle.std.specs.Int.{int_div_euclid, int_rem_euclid}
use Rattle.time_below.specs.Calendar.{OrdinalDate, day_number, days_in_year, weekday_of, date_at, thursday_of}
use Rattle.time_below.specs.Calendar.{days_before, greatest_year}
use Rattle.time_below.specs.Moment.{utc_date, second_of_day, day_seconds, unix_day, seconds_before}
use Rattle.std.proofs.lemmas.Grind.{common_steps}

-- the days of n years of the calendar that begin where 400 years begin
abbrev pub days_of_years : ℕ → ℕ
days_of_years n = 365 * n + n / 4 - n / 100 + n / 400

-- the day number of a date, by the days from the start
pub day_number_from_start : (d : OrdinalDate) (n : ℕ) → d.year +ℤ pos greatest_year ≡ pos n
    → 1 ≤ d.ordinal → day_number d +ℤ pos days_before ≡ pos (days_of_years n + d.ordinal - 1)
day_number_from_start d n e one = grind (arith, ints)

-- the days before the start are whole weeks
pub weekday_from_start : (z : ℤ) (n : ℕ) → pos n ≡ z +ℤ pos days_before
    → unsigned_abs (int_rem_euclid z (pos 7)) ≡ n % 7
weekday_from_start z n h = grind (arith, common_steps, ints)

-- the same where each year counts as one day, since 365 days are 52 weeks and a day
pub weekday_by_years : (d : OrdinalDate) (n : ℕ) → d.year +ℤ pos greatest_year ≡ pos n
    → 1 ≤ d.ordinal → weekday_of d ≡ ((n + 100) * 5 / 4 - (n + 100) / 100 * 3 / 4 + d.ordinal) % 7
weekday_by_years d n e one = grind (arith, common_steps, day_number_from_start, weekday_from_start)

-- the whole years in n days from the start, and the days left
abbrev pub years_at : ℕ → ℕ
years_at n = 100 * ((4 * n + 3) / 146_097) + ((4 * n + 3) % 146_097 / 4 * 4 + 3) / 1461

-- the place of a day in its year, from 0
abbrev pub place_at : ℕ → ℕ
place_at n = ((4 * n + 3) % 146_097 / 4 * 4 + 3) % 1461 / 4

-- equal parts make equal dates
pub same_date : (y x : ℤ) (o p : ℕ) → y ≡ x → o ≡ p
    → ◌≡◌ {A = OrdinalDate} (record { year = y; ordinal = o }) (record { year = x; ordinal = p })
same_date y x o p e f = rw (e, f) refl

-- the date of a day number, by the days from the start
pub date_at_shifted : (z : ℤ) (n : ℕ) → z +ℤ pos days_before ≡ pos n
    → date_at z ≡ record { year = pos (years_at n) -ℤ pos greatest_year; ordinal = place_at n + 1 }
unfolding date_at
date_at_shifted z n e = grind (arith, ints, same_date)

-- the date of this many days from the start
pub date_at_from_start : (n : ℕ)
    → date_at (pos n -ℤ pos days_before) ≡ record {
      year = pos (years_at n) -ℤ pos greatest_year;
      ordinal =
          place_at n + 1;
    }
date_at_from_start n = date_at_shifted (pos n -ℤ pos days_before) n (omega (arith, ints))

-- the Thursday of the week, by the days from the start
pub thursday_from_start : (d : OrdinalDate) (n : ℕ) → pos n ≡ day_number d +ℤ pos days_before
    → date_at (pos (n - n % 7 + 3) -ℤ pos days_before) ≡ thursday_of d
thursday_from_start d n e = grind (arith, common_steps, ints, weekday_from_start)

-- the UTC day of a second is that of the whole days from the start
pub utc_day : (s : ℤ) (n : ℕ) → s +ℤ pos seconds_before ≡ pos n
    → pos (n / day_seconds) -ℤ pos days_before ≡ int_div_euclid s (pos day_seconds) +ℤ pos unix_day
utc_day s n h = grind (arith, common_steps, ints)

-- the date of a second in UTC, counted from the first second of the range
pub utc_date_from_start : (s : ℤ) (n : ℕ) → s +ℤ pos seconds_before ≡ pos n
    → date_at (pos (n / day_seconds) -ℤ pos days_before) ≡ utc_date s
utc_date_from_start s n e = ap date_at (utc_day s n e)

-- the second of the UTC day is the rest of those days
pub second_from_start : (s : ℤ) (n : ℕ) → s +ℤ pos seconds_before ≡ pos n
    → second_of_day s ≡ n % day_seconds
second_from_start s n h = grind (arith, common_steps, ints)

-- no year has more than 366 days
pub days_below : (y : ℤ) → days_in_year y ≤ 366
days_below y = grind arith

-- a remainder by seven is below seven
below_seven : (z : ℤ) → unsigned_abs (int_rem_euclid z (pos 7)) < 7
below_seven z = grind (arith, common_steps)

-- a weekday is one of seven
pub weekday_below : (d : OrdinalDate) → weekday_of d < 7
weekday_below d = below_seven (day_number d)
