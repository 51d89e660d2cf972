-- Moments of the types.
use Rattle.std.specs.Prelude.{◌≡◌, ℤ}
use Rattle.time_below.specs.Moment.{DateAndTime, IsTimestampSecond, Moment, OffsetDateAndTime, local_unix_seconds, utc_date_and_time}
use Rattle.time_below.specs.Offset.{utc}

-- a date and time in UTC, with its offset
abbrev pub in_utc : DateAndTime → OffsetDateAndTime
in_utc t = record { date = t.date; time = t.time; offset = utc }

-- the moment of a local date and time
abbrev pub instant_of : OffsetDateAndTime → Moment
instant_of t = record { seconds = local_unix_seconds t; nanosecond = t.time.nanosecond }

-- the date and time in UTC at which a second begins
abbrev pub second_in_utc : ℤ → OffsetDateAndTime
second_in_utc second = in_utc (utc_date_and_time (record { seconds = second; nanosecond = 0 }))

-- the value that a type has at a moment
abbrev pub IsValueAt : {T : Type 0} → (OffsetDateAndTime → Type 0) → (OffsetDateAndTime → T) → OffsetDateAndTime → T → Type 0
IsValueAt has_moment of_local t value = has_moment t × (value ≡ of_local t)

-- the value that a type has at the beginning of a second, in UTC
abbrev pub IsAtSecond : {T : Type 0} → (OffsetDateAndTime → Type 0) → (OffsetDateAndTime → T) → ℤ → T → Type 0
IsAtSecond has_moment of_local second value =
    IsTimestampSecond second × IsValueAt has_moment of_local (second_in_utc second) value
