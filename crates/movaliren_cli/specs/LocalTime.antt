-- The moment at which the clock of a zone shows a date and time.
use Rattle.std.specs.Prelude.{◌≡◌, ◌⊎◌, ℤ, Option, Some, None}
use Rattle.jiff_core.specs.Calendar.{IsYear}
use Rattle.jiff_core.specs.Timestamp.{IsTimestampNanos}
use Rattle.jiff_core.specs.declared.civil.datetime.DateTime.{DateTime}
use Rattle.jiff_tz.specs.Ambiguous.{compatible_offset, instant_of}
use Rattle.jiff_tz.specs.Zone.{ambiguous_at}
use Rattle.jiff_tz.specs.declared.timezone.TimeZone.{TimeZone}
use Rattle.time_below.specs.Calendar.{day_of, month_of}
use Rattle.time_below.specs.Moment.{DateAndTime, Moment, nanoseconds}
use Rattle.time_jiff.specs.Same.{same_time}

-- the date and time of jiff that has the same year, month, day and time
pub record IsSame (t : DateAndTime) (dt : DateTime) : Type 0 where
  pub year : dt.date.year ≡ t.date.year
  pub month : dt.date.month ≡ month_of t.date
  pub day : dt.date.day ≡ day_of t.date
  pub time : same_time dt.time ≡ t.time

-- the instant of a date and time by the offset that jiff takes: the one before the change, where the clock skips
-- the date and time or shows it twice
abbrev pub instant_in : TimeZone → DateTime → ℤ
instant_in zone dt = instant_of dt (compatible_offset (ambiguous_at zone dt))

-- the moment is that instant; there is none where jiff has no such date and time, or not the instant
abbrev pub IsMomentIn : TimeZone → DateAndTime → Option Moment → Type 0
IsMomentIn zone t (Some m) = (dt : DateTime) × IsSame t dt × (nanoseconds m ≡ instant_in zone dt)
IsMomentIn zone t None =
    (IsYear t.date.year → ⊥) ⊎ ((dt : DateTime) × IsSame t dt × (IsTimestampNanos (instant_in zone dt) → ⊥))
