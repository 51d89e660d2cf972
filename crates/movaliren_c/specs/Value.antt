-- The value that the parts of a moment give, or the first part that is outside its range.
use Rattle.std.specs.Prelude.{ℕ, ◌+◌, ℤ, Bool, true, false, ◌&&◌, not, ◌==◌, nat_le, nat_lt, int_le, int_lt, pos, neg_ℤ, unsigned_abs, List, [], ◌∷◌}
use Rattle.std.specs.Prelude.{Result, Ok, Err, if◌then◌else◌}
use Rattle.movaliren_c.specs.declared.answers.reason.Reason.{Reason}
use Rattle.movaliren_c.specs.declared.answers.reason.Reason.TheVariants as reason
use Rattle.movaliren_c.specs.declared.values.moment.Moment.{Moment}
use Rattle.time_below.specs.Calendar.{OrdinalDate, date_of, days_in_month, is_leap_year}
use Rattle.time_below.specs.Moment as moments
use Rattle.time_below.specs.Moment.{OffsetDateAndTime, seconds_before}
use Rattle.time_below.specs.Offset.{Offset}
use Rattle.time_below.specs.TimeOfDay.{TimeOfDay}

-- the time of day of the parts
abbrev pub time_of_parts : Moment → TimeOfDay
time_of_parts m = record { hour = m.hour; minute = m.minute; second = m.second; nanosecond = m.nanosecond }

-- the offset of the parts
abbrev pub offset_of_parts : Moment → Offset
offset_of_parts m = record { hours = m.offset_hours; minutes = m.offset_minutes; seconds = m.offset_seconds }

-- the rest, if the test holds
abbrev pub checked : {A : Type 0} → Bool → Reason → Result A Reason → Result A Reason
checked test r rest = if test then rest else Err r

-- what comes of a value, if there is one
abbrev pub with_value : {A B : Type 0} → Result A Reason → (A → Result B Reason) → Result B Reason
with_value (Ok value) next = next value
with_value (Err r) next = Err r

-- the value of a number, where the values are counted on from the first
abbrev pub numbered : {A : Type 0} → ℕ → List A → Reason → ℕ → Result A Reason
numbered first [] r n = Err r
numbered first (value ∷ rest) r n = if n == first then Ok value else numbered (first + 1) rest r n

-- whether a flag is set
abbrev pub flag_at : ℕ → Reason → Result Bool Reason
flag_at n r = numbered 0 (false ∷ true ∷ []) r n

unfoldable pub date_value : ℤ → ℕ → ℕ → Result OrdinalDate Reason
date_value year month day =
    checked (nat_le (unsigned_abs year) 999_999) reason.Year
    (checked (nat_le 1 month && nat_le month 12) reason.Month
    (checked (nat_le 1 day && nat_le day (days_in_month (is_leap_year year) month)) reason.Day
    (Ok (date_of year month day))))

abbrev pub time_value : Moment → Result TimeOfDay Reason
time_value m =
    checked (nat_lt m.hour 24) reason.Hour
    (checked (nat_lt m.minute 60) reason.Minute
    (checked (nat_lt m.second 60) reason.Second
    (checked (nat_lt m.nanosecond 1_000_000_000) reason.Nanosecond
    (Ok (record {
      hour = m.hour;
      minute = m.minute;
      second = m.second;
      nanosecond = m.nanosecond;
    })))))

-- neither of two parts is above zero where the other one is below
abbrev pub is_alike : ℤ → ℤ → Bool
is_alike a b = not (int_lt a (pos 0) && int_lt (pos 0) b) && not (int_lt (pos 0) a && int_lt b (pos 0))

-- a part is at most so far from zero, and has not the opposite sign of one of two parts before it
abbrev pub is_offset_part : ℕ → ℤ → ℤ → ℤ → Bool
is_offset_part greatest a b part = nat_le (unsigned_abs part) greatest && is_alike a part && is_alike b part

-- the parts have one sign at most
abbrev pub offset_value : Moment → Result Offset Reason
offset_value m =
    checked (is_offset_part 25 (pos 0) (pos 0) m.offset_hours) reason.OffsetHours
    (checked (is_offset_part 59 m.offset_hours (pos 0) m.offset_minutes) reason.OffsetMinutes
    (checked (is_offset_part 59 m.offset_hours m.offset_minutes m.offset_seconds) reason.OffsetSeconds
    (Ok (record {
      hours = m.offset_hours;
      minutes = m.offset_minutes;
      seconds = m.offset_seconds;
    }))))

-- the ranges are tested in this order: date, time, offset
unfoldable pub moment_value : Moment → Result OffsetDateAndTime Reason
moment_value m =
    with_value (date_value m.year m.month m.day) (λ date.
    with_value (time_value m) (λ time.
    with_value (offset_value m) (λ offset.
    Ok (record { date = date; time = time; offset = offset }))))

-- the last second of the years -999,999 to 999,999
abbrev pub last_second : ℕ
last_second = 31_494_784_780_799

-- so many seconds since 1970 are within the years -999,999 to 999,999
abbrev pub is_in_years : ℤ → Bool
is_in_years seconds = int_le (neg_ℤ (pos seconds_before)) seconds && int_le seconds (pos last_second)

-- the moment of this many seconds since 1970 and a nanosecond
unfoldable pub timestamp_value : ℤ → ℕ → Result moments.Moment Reason
timestamp_value seconds nanosecond =
    checked (is_in_years seconds) reason.MomentSeconds
    (checked (nat_lt nanosecond 1_000_000_000) reason.Nanosecond
    (Ok (record { seconds = seconds; nanosecond = nanosecond })))
