-- The value that seconds since 1970 and a nanosecond give, in UTC or at an offset.
use Rattle.std.specs.Prelude.{◌≡◌, ℕ, ℤ, ◌+ℤ◌, unsigned_abs, nat_lt, Result, Ok}
use Rattle.movaliren_c.specs.Value.{checked, is_in_years, with_value, timestamp_value}
use Rattle.movaliren_c.specs.declared.answers.reason.Reason.{Reason}
use Rattle.movaliren_c.specs.declared.answers.reason.Reason.TheVariants as reason
use Rattle.time_below.specs.Calendar.{IsDate}
use Rattle.time_below.specs.Moment.{Moment, DateAndTime, OffsetDateAndTime, local_at, local_unix_seconds, utc_date_and_time}
use Rattle.time_below.specs.Offset.{Offset, IsOffset, offset_of_seconds, offset_seconds, utc}
use Rattle.time_below.specs.TimeOfDay.{IsTimeOfDay}
use Rattle.time_fmt.specs.Outcome.{Outcome}
use Rattle.time_known.specs.Stamps.{stamp_of}

-- a date and time, and this offset
abbrev pub with_offset : Offset → DateAndTime → OffsetDateAndTime
with_offset o v = record { date = v.date; time = v.time; offset = o }

-- the date and time in UTC so long after 1970
unfoldable pub utc_value : ℤ → ℕ → Result OffsetDateAndTime Reason
utc_value seconds nanosecond =
    with_value (timestamp_value seconds nanosecond) (λ m. Ok (with_offset utc (utc_date_and_time m)))

-- the stamp of a value in UTC
abbrev pub utc_stamp_of : OffsetDateAndTime → Outcome
utc_stamp_of v = stamp_of (record { date = v.date; time = v.time; offset = tt })

-- an offset of at most 25:59:59 either way, by its seconds east of UTC
abbrev pub east_value : ℤ → Result Offset Reason
east_value east =
    checked (nat_lt (unsigned_abs east) 93_600) reason.OffsetHours (Ok (offset_of_seconds east))

-- the date and time of a moment by clocks at this offset; no format has a place for a year outside -999,999 to 999,999
abbrev pub local_there : Moment → Offset → Result OffsetDateAndTime Reason
local_there m o = checked (is_in_years (m.seconds +ℤ offset_seconds o)) reason.FormatYear (Ok (local_at m o))

-- the moment is tested first, then the offset, then the local date
unfoldable pub local_value : ℤ → ℕ → ℤ → Result OffsetDateAndTime Reason
local_value seconds nanosecond east =
    with_value (timestamp_value seconds nanosecond) (λ m. with_value (east_value east) (λ o. local_there m o))

-- a local date and time that there is, by its offset the moment of so many seconds since 1970 and a
-- nanosecond, where clocks are so many seconds ahead of UTC
pub record Means (seconds : ℤ) (nanosecond : ℕ) (east : ℤ) (t : OffsetDateAndTime) : Type 0 where
  pub date : IsDate t.date
  pub time : IsTimeOfDay t.time
  pub offset : IsOffset t.offset
  pub moment : local_unix_seconds t ≡ seconds
  pub forward : t.time.nanosecond ≡ nanosecond
  pub ahead : offset_seconds t.offset ≡ east
