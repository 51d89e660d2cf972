-- Moments, counted from 1970-01-01T00:00:00 UTC, and dates with a time of day.
use Rattle.std.specs.Prelude.{◌≡◌, ◌⊎◌, ℕ, ◌<◌, ℤ, pos, neg_ℤ, ◌+ℤ◌, ◌-ℤ◌, ◌*ℤ◌, ◌≤ℤ◌, ◌<ℤ◌, unsigned_abs, int_div}
use Rattle.std.specs.Int.{int_div_euclid, int_rem_euclid}
use Rattle.time_below.specs.Calendar.{OrdinalDate, day_number, date_at}
use Rattle.time_below.specs.TimeOfDay.{TimeOfDay, seconds_from_midnight, time_at}
use Rattle.time_below.specs.Offset.{Offset, offset_seconds, utc}

-- the seconds of a day
abbrev pub day_seconds : ℕ
day_seconds = 86_400

-- the day number of 1970-01-01
abbrev pub unix_day : ℕ
unix_day = 719_162

-- the seconds from -999999-01-01T00:00:00 to 1970
abbrev pub seconds_before : ℕ
seconds_before = 31_619_087_596_800

-- the seconds since 1970, and the nanosecond counted forward from there
pub record Moment : Type 0 where
  pub seconds : ℤ
  pub nanosecond : ℕ

-- a date and a time of that day, and what is known of their offset from UTC
pub record DateTimeWith (Z : Type 0) : Type 0 where
  pub date : OrdinalDate
  pub time : TimeOfDay
  pub offset : Z

-- a date and a time of that day
abbrev pub DateAndTime : Type 0
DateAndTime = DateTimeWith (Unit {0})

-- a local date and time, and the offset of the place from UTC
abbrev pub OffsetDateAndTime : Type 0
OffsetDateAndTime = DateTimeWith Offset

-- a second from -999999-01-01T00:00:00 to 999999-12-31T23:59:59
abbrev pub IsTimestampSecond : ℤ → Type 0
IsTimestampSecond s = (neg_ℤ (pos seconds_before) ≤ℤ s) × (s ≤ℤ pos 31_494_784_780_799)

-- less than 26 hours outside that range, as a local date and time may be
abbrev pub IsNearTimestampSecond : ℤ → Type 0
IsNearTimestampSecond s = (neg_ℤ (pos 31_619_087_690_400) <ℤ s) × (s <ℤ pos 31_494_784_874_399)

-- a moment that a timestamp may have
abbrev pub IsMoment : Moment → Type 0
IsMoment m = IsTimestampSecond m.seconds × (m.nanosecond < 1_000_000_000)

-- a moment that a local date and time may have
abbrev pub IsNearMoment : Moment → Type 0
IsNearMoment m = IsNearTimestampSecond m.seconds × (m.nanosecond < 1_000_000_000)

-- the seconds from 1970-01-01 to a date and time, both in UTC
abbrev pub unix_seconds : DateAndTime → ℤ
unix_seconds t =
    (day_number t.date -ℤ pos unix_day) *ℤ pos day_seconds +ℤ pos (seconds_from_midnight t.time)

-- the Unix seconds of a local date and time: a place with a positive offset is ahead of UTC
abbrev pub local_unix_seconds : OffsetDateAndTime → ℤ
local_unix_seconds t =
    unix_seconds (record { date = t.date; time = t.time; offset = tt }) -ℤ offset_seconds t.offset

-- the moment of a date and time in UTC
abbrev pub moment_of : DateAndTime → Moment
moment_of t = record { seconds = unix_seconds t; nanosecond = t.time.nanosecond }

-- the moment of a local date and time
abbrev pub local_moment : OffsetDateAndTime → Moment
local_moment t = record { seconds = local_unix_seconds t; nanosecond = t.time.nanosecond }

-- the order of moments: by the seconds, and then by the nanosecond
abbrev pub IsBefore : Moment → Moment → Type 0
IsBefore m n = (m.seconds <ℤ n.seconds) ⊎ ((m.seconds ≡ n.seconds) × (m.nanosecond < n.nanosecond))

-- the moment at which a second since 1970 begins
abbrev pub at_second : ℤ → Moment
at_second s = record { seconds = s; nanosecond = 0 }

-- a date and time in UTC, as a local one
abbrev pub in_utc : DateAndTime → OffsetDateAndTime
in_utc t = record { date = t.date; time = t.time; offset = utc }

-- the UTC date of this many seconds since 1970-01-01
abbrev pub utc_date : ℤ → OrdinalDate
utc_date seconds = date_at (int_div_euclid seconds (pos day_seconds) +ℤ pos unix_day)

-- how far into the UTC day they end
abbrev pub second_of_day : ℤ → ℕ
second_of_day seconds = unsigned_abs (int_rem_euclid seconds (pos day_seconds))

-- the UTC time of a moment
abbrev pub utc_time : Moment → TimeOfDay
utc_time m = time_at (second_of_day m.seconds) m.nanosecond

-- the UTC date and time of a moment
abbrev pub utc_date_and_time : Moment → DateAndTime
utc_date_and_time m = record { date = utc_date m.seconds; time = utc_time m; offset = tt }

-- the moment whose date and time in UTC are those that clocks at this offset show
abbrev pub moved : Moment → Offset → Moment
moved m o = record { seconds = m.seconds +ℤ offset_seconds o; nanosecond = m.nanosecond }

-- the date and time of a moment by those clocks
abbrev pub local_at : Moment → Offset → OffsetDateAndTime
local_at m o = record { date = utc_date (moved m o).seconds; time = utc_time (moved m o); offset = o }

-- the nanoseconds since 1970-01-01
abbrev pub nanoseconds : Moment → ℤ
nanoseconds m = pos 1_000_000_000 *ℤ m.seconds +ℤ pos m.nanosecond

-- the nanoseconds of a moment that a timestamp may have
abbrev pub IsTimestampNanosecond : ℤ → Type 0
IsTimestampNanosecond n =
    (neg_ℤ (pos 31_619_087_596_800_000_000_000) ≤ℤ n) × (n ≤ℤ pos 31_494_784_780_799_999_999_999)

-- the milliseconds since 1970-01-01: `int_div` rounds toward zero
abbrev pub milliseconds : Moment → ℤ
milliseconds m = int_div (nanoseconds m) (pos 1_000_000)
