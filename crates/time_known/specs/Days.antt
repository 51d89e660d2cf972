-- The month and the day of a day of the year.
use Rattle.std.specs.Prelude.{ℕ, ◌+◌, ◌-◌, Bool, true, ◌||◌, nat_lt, if◌then◌else◌}
use Rattle.time_below.specs.Calendar.{days_of_months, last_begun}
use Rattle.time_known.specs.declared.days.CalendarDay.{CalendarDay}

-- a month, and a day of it
pub record MonthAndDay : Type 0 where
  pub month : ℕ
  pub day : ℕ

-- those of a day of the year
abbrev pub month_and_day_in : Bool → ℕ → MonthAndDay
month_and_day_in is_leap ordinal = record {
  month = last_begun is_leap 12 ordinal;
  day = ordinal - days_of_months is_leap (last_begun is_leap 12 ordinal - 1);
}

-- those that are meant
abbrev pub month_and_day : CalendarDay → MonthAndDay
month_and_day d = month_and_day_in true d.0

-- the day of a leap year with the same month and day: a common year lacks 29 February
abbrev pub day_of_leap_year : Bool → ℕ → ℕ
day_of_leap_year is_leap ordinal = if is_leap || nat_lt ordinal 60 then ordinal else ordinal + 1
