-- Dates from outside: their components by the definitions are those of printed calendars.
use Rattle.std.proofs.Common.{◌≡◌, ℕ, refl, ℤ, pos, neg_ℤ}
use Rattle.time_below.specs.Calendar.{days_of_months, last_begun, date_at}
use Rattle.time_below.specs.Facts.{date_facts}

-- the components of a day of a year: month, day, weekday as days from Monday, ISO year and week, and the
-- weeks of the year by Mondays and by Sundays
abbrev HasComponents : ℤ → ℕ → ℕ → ℕ → ℕ → ℤ → ℕ → ℕ → ℕ → Type 0
HasComponents year ordinal month day weekday iso_year iso_week by_mondays by_sundays =
    date_facts (record { year = year; ordinal = ordinal }) ≡ record {
      year = year;
      month = month;
      day = day;
      ordinal = ordinal;
      weekday = weekday;
      iso_year = iso_year;
      iso_week = iso_week;
      monday_based_week = by_mondays;
      sunday_based_week = by_sundays;
    }

-- the first day of the year 1
on_1_01_01 : HasComponents (pos 1) 1 1 1 0 (pos 1) 1 1 0
unfolding days_of_months last_begun date_at
on_1_01_01 = refl

-- a year of 100 that is no leap year
on_1900_03_01 : HasComponents (pos 1900) 60 3 1 3 (pos 1900) 9 9 8
unfolding days_of_months last_begun date_at
on_1900_03_01 = refl

-- the first day of Unix time
on_1970_01_01 : HasComponents (pos 1970) 1 1 1 3 (pos 1970) 1 0 0
unfolding days_of_months last_begun date_at
on_1970_01_01 = refl

-- a Wednesday
on_1997_11_12 : HasComponents (pos 1997) 316 11 12 2 (pos 1997) 46 45 45
unfolding days_of_months last_begun date_at
on_1997_11_12 = refl

-- the last day of a common year
on_1999_12_31 : HasComponents (pos 1999) 365 12 31 4 (pos 1999) 52 52 52
unfolding days_of_months last_begun date_at
on_1999_12_31 = refl

-- a leap day of a year of 400
on_2000_02_29 : HasComponents (pos 2000) 60 2 29 1 (pos 2000) 9 9 9
unfolding days_of_months last_begun date_at
on_2000_02_29 = refl

-- a Monday in the first week of the next ISO year
on_2008_12_29 : HasComponents (pos 2008) 364 12 29 0 (pos 2009) 1 52 52
unfolding days_of_months last_begun date_at
on_2008_12_29 = refl

-- a year of 53 weeks
on_2009_12_31 : HasComponents (pos 2009) 365 12 31 3 (pos 2009) 53 52 52
unfolding days_of_months last_begun date_at
on_2009_12_31 = refl

-- a Sunday in the last week of 2009
on_2010_01_03 : HasComponents (pos 2010) 3 1 3 6 (pos 2009) 53 0 1
unfolding days_of_months last_begun date_at
on_2010_01_03 = refl

-- a year that begins on a Sunday
on_2023_01_01 : HasComponents (pos 2023) 1 1 1 6 (pos 2022) 52 0 1
unfolding days_of_months last_begun date_at
on_2023_01_01 = refl

-- a Monday late in a leap year
on_2024_12_30 : HasComponents (pos 2024) 365 12 30 0 (pos 2025) 1 53 52
unfolding days_of_months last_begun date_at
on_2024_12_30 = refl

-- the last day of four-digit years
on_9999_12_31 : HasComponents (pos 9999) 365 12 31 4 (pos 9999) 52 52 52
unfolding days_of_months last_begun date_at
on_9999_12_31 = refl

-- the first day of all
on_minus_999999_01_01 : HasComponents (neg_ℤ (pos 999_999)) 1 1 1 0 (neg_ℤ (pos 999_999)) 1 1 0
unfolding days_of_months last_begun date_at
on_minus_999999_01_01 = refl

-- a Wednesday of the first year
on_minus_999999_09_12 : HasComponents (neg_ℤ (pos 999_999)) 255 9 12 2 (neg_ℤ (pos 999_999)) 37 37 36
unfolding days_of_months last_begun date_at
on_minus_999999_09_12 = refl

-- the last day of all
on_999999_12_31 : HasComponents (pos 999_999) 365 12 31 4 (pos 999_999) 52 52 52
unfolding days_of_months last_begun date_at
on_999999_12_31 = refl
