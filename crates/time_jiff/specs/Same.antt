-- What is the same of a value of jiff and one of Movaliren.
use Rattle.std.specs.Prelude.{◌≡◌, ℤ, pos, ◌+ℤ◌, ◌*ℤ◌}
use Rattle.jiff.specs.Placed.{fixed_zone}
use Rattle.jiff.specs.ZonedView.{plain_zoned}
use Rattle.jiff.specs.declared.zoned.Zoned.{Zoned}
use Rattle.jiff_core.specs.declared.civil.date.Date.{Date}
use Rattle.jiff_core.specs.declared.civil.time.Time.{Time}
use Rattle.jiff_core.specs.declared.offset.Offset.{Offset as TheirOffset}
use Rattle.time_below.specs.Calendar.{OrdinalDate, date_of}
use Rattle.time_below.specs.Moment.{OffsetDateAndTime, local_unix_seconds}
use Rattle.time_below.specs.TimeOfDay.{TimeOfDay}

-- the nanoseconds since 1970 of a local date and time
abbrev pub local_nanoseconds : OffsetDateAndTime → ℤ
local_nanoseconds t = pos 1_000_000_000 *ℤ local_unix_seconds t +ℤ pos t.time.nanosecond

-- the time of the same hour, minute, second and nanosecond
abbrev pub same_time : Time → TimeOfDay
same_time t =
    record {
      hour = t.hour;
      minute = t.minute;
      second = t.second;
      nanosecond = t.subsec_nanosecond;
    }

-- the date of the same year, month and day
abbrev pub same_date : Date → OrdinalDate
same_date d = date_of d.year d.month d.day

-- a moment in the zone that always has this offset
abbrev pub IsInFixedZone : Zoned → ℤ → Type 0
IsInFixedZone z seconds = (o : TheirOffset) × (o.seconds ≡ seconds) × ((plain_zoned z).time_zone ≡ fixed_zone o)
