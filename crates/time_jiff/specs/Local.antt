-- What the clock of a zone shows.
use Rattle.std.specs.Prelude.{ℤ, ◌≡◌, pos, ◌≤ℤ◌}
use Rattle.jiff_tz.specs.Zone.{offset_at}
use Rattle.jiff_tz.specs.declared.timezone.TimeZone.{TimeZone}
use Rattle.time_below.specs.Moment.{OffsetDateAndTime}
use Rattle.time_below.specs.Offset.{Offset, offset_seconds}
use Rattle.time_jiff.specs.Same.{local_nanoseconds}

-- the zone has the offset at the moment of so many nanoseconds since 1970
abbrev pub HasOffsetAt : TimeZone → ℤ → Offset → Type 0
HasOffsetAt zone nanoseconds offset = offset_seconds offset ≡ offset_at zone nanoseconds

-- a local date and time has the offset that the zone has at its moment
abbrev pub IsShownIn : TimeZone → OffsetDateAndTime → Type 0
IsShownIn zone t = HasOffsetAt zone (local_nanoseconds t) t.offset

-- the zone has the offset at some moment since 1970
abbrev pub HasOffsetSince1970 : TimeZone → Offset → Type 0
HasOffsetSince1970 zone offset = (n : ℤ) × (pos 0 ≤ℤ n) × HasOffsetAt zone n offset
