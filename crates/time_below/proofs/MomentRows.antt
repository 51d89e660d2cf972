-- Moments and offsets from outside, by computing the definitions.
use Rattle.std.proofs.Common.{◌≡◌, ℕ, refl, ℤ, pos, neg_ℤ}
use Rattle.time_below.specs.Calendar.{OrdinalDate, date_at}
use Rattle.time_below.specs.TimeOfDay.{TimeOfDay}
use Rattle.time_below.specs.Offset.{Offset, settled}
use Rattle.time_below.specs.Moment.{unix_seconds, local_unix_seconds, utc_date_and_time, milliseconds}

abbrev day_in : ℤ → ℕ → OrdinalDate
day_in year ordinal = record { year = year; ordinal = ordinal }

abbrev time_of_clock : ℕ → ℕ → ℕ → TimeOfDay
time_of_clock hour minute second = record { hour = hour; minute = minute; second = second; nanosecond = 5 }

abbrev offset_of : ℤ → ℤ → ℤ → Offset
offset_of hours minutes seconds = record { hours = hours; minutes = minutes; seconds = seconds }

-- a date and a time in UTC have these Unix seconds, and are those of that moment
record IsAt (seconds : ℤ) (date : OrdinalDate) (time : TimeOfDay) : Type 0 where
  pub there : unix_seconds (record { date = date; time = time; offset = tt }) ≡ seconds
  pub back : utc_date_and_time (record { seconds = seconds; nanosecond = 5 }) ≡ record { date = date; time = time; offset = tt }

seconds_of_1970_01_01 : IsAt (pos 0) (day_in (pos 1970) 1) (time_of_clock 0 0 0)
unfolding date_at
seconds_of_1970_01_01 = record { there = refl; back = refl }

seconds_before_1970 : IsAt (neg_ℤ (pos 1)) (day_in (pos 1969) 365) (time_of_clock 23 59 59)
unfolding date_at
seconds_before_1970 = record { there = refl; back = refl }

seconds_on_a_leap_day : IsAt (pos 951_827_696) (day_in (pos 2000) 60) (time_of_clock 12 34 56)
unfolding date_at
seconds_on_a_leap_day = record { there = refl; back = refl }

seconds_before_march_1900 : IsAt (neg_ℤ (pos 2_203_891_201)) (day_in (pos 1900) 59) (time_of_clock 23 59 59)
unfolding date_at
seconds_before_march_1900 = record { there = refl; back = refl }

seconds_of_the_year_1 : IsAt (neg_ℤ (pos 62_135_596_800)) (day_in (pos 1) 1) (time_of_clock 0 0 0)
unfolding date_at
seconds_of_the_year_1 = record { there = refl; back = refl }

seconds_of_the_last_four_digit_year : IsAt (pos 253_402_300_799) (day_in (pos 9999) 365) (time_of_clock 23 59 59)
unfolding date_at
seconds_of_the_last_four_digit_year = record { there = refl; back = refl }

seconds_of_the_first_moment :
    IsAt (neg_ℤ (pos 31_619_087_596_800)) (day_in (neg_ℤ (pos 999_999)) 1) (time_of_clock 0 0 0)
unfolding date_at
seconds_of_the_first_moment = record { there = refl; back = refl }

seconds_of_the_last_moment : IsAt (pos 31_494_784_780_799) (day_in (pos 999_999) 365) (time_of_clock 23 59 59)
unfolding date_at
seconds_of_the_last_moment = record { there = refl; back = refl }

-- a local date and time at an offset have these Unix seconds
abbrev IsLocallyAt : ℤ → OrdinalDate → TimeOfDay → Offset → Type 0
IsLocallyAt seconds date time offset =
    local_unix_seconds (record { date = date; time = time; offset = offset }) ≡ seconds

seconds_west_of_greenwich : IsLocallyAt (pos 879_350_106) (day_in (pos 1997) 316) (time_of_clock 9 55 6)
    (offset_of (neg_ℤ (pos 6)) (pos 0) (pos 0))
seconds_west_of_greenwich = refl

seconds_east_of_greenwich :
    IsLocallyAt (pos 0) (day_in (pos 1970) 1) (time_of_clock 1 30 0) (offset_of (pos 1) (pos 30) (pos 0))
seconds_east_of_greenwich = refl

seconds_past_the_last_moment : IsLocallyAt (pos 31_494_784_874_398) (day_in (pos 999_999) 365) (time_of_clock 23 59 59)
    (offset_of (neg_ℤ (pos 25)) (neg_ℤ (pos 59)) (neg_ℤ (pos 59)))
seconds_past_the_last_moment = refl

seconds_before_the_first_moment :
    IsLocallyAt (neg_ℤ (pos 31_619_087_690_399)) (day_in (neg_ℤ (pos 999_999)) 1) (time_of_clock 0 0 0)
    (offset_of (pos 25) (pos 59) (pos 59))
seconds_before_the_first_moment = refl

-- the milliseconds of whole seconds and a nanosecond
abbrev HasMilliseconds : ℤ → ℕ → ℤ → Type 0
HasMilliseconds seconds nanosecond wanted =
    milliseconds (record { seconds = seconds; nanosecond = nanosecond }) ≡ wanted

milliseconds_of_the_last_moment : HasMilliseconds (pos 31_494_784_780_799) 999_999_999 (pos 31_494_784_780_799_999)
milliseconds_of_the_last_moment = refl

milliseconds_of_the_first_moment :
    HasMilliseconds (neg_ℤ (pos 31_619_087_596_800)) 0 (neg_ℤ (pos 31_619_087_596_800_000))
milliseconds_of_the_first_moment = refl

milliseconds_after_the_first_moment :
    HasMilliseconds (neg_ℤ (pos 31_619_087_596_800)) 1 (neg_ℤ (pos 31_619_087_596_799_999))
milliseconds_after_the_first_moment = refl

milliseconds_toward_zero : HasMilliseconds (neg_ℤ (pos 1)) 999_500_000 (pos 0)
milliseconds_toward_zero = refl

milliseconds_before_1970 : HasMilliseconds (neg_ℤ (pos 1)) 999_000_000 (neg_ℤ (pos 1))
milliseconds_before_1970 = refl

milliseconds_rounded_down_above_zero : HasMilliseconds (pos 0) 1_999_999 (pos 1)
milliseconds_rounded_down_above_zero = refl

-- signs that differ are settled by the first part that is not zero
sign_by_the_hour : settled (pos 1) (neg_ℤ (pos 30)) (pos 0) ≡ offset_of (pos 1) (pos 30) (pos 0)
sign_by_the_hour = refl

sign_by_the_hour_below_zero : settled (neg_ℤ (pos 1)) (pos 30) (pos 0)
    ≡ offset_of (neg_ℤ (pos 1)) (neg_ℤ (pos 30)) (pos 0)
sign_by_the_hour_below_zero = refl

sign_by_the_minute : settled (pos 0) (pos 1) (neg_ℤ (pos 1)) ≡ offset_of (pos 0) (pos 1) (pos 1)
sign_by_the_minute = refl

sign_by_the_minute_below_zero : settled (pos 0) (neg_ℤ (pos 1)) (pos 1)
    ≡ offset_of (pos 0) (neg_ℤ (pos 1)) (neg_ℤ (pos 1))
sign_by_the_minute_below_zero = refl

sign_by_the_second_past_zero : settled (neg_ℤ (pos 2)) (pos 0) (pos 3)
    ≡ offset_of (neg_ℤ (pos 2)) (pos 0) (neg_ℤ (pos 3))
sign_by_the_second_past_zero = refl

sign_by_the_second : settled (pos 0) (pos 0) (neg_ℤ (pos 1)) ≡ offset_of (pos 0) (pos 0) (neg_ℤ (pos 1))
sign_by_the_second = refl
