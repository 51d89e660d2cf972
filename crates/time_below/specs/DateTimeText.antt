-- The texts of dates with a time of day: `2026-11-22 9:55:06.12`, `2026-11-22 9:55:06.12 +00` in UTC, and
-- `2026-11-22 9:55:06.12 +05:30:00` at an offset.
use Rattle.std.specs.Prelude.{ℕ, List, ◌++◌, codes}
use Rattle.time_below.specs.DateText.{date_text}
use Rattle.time_below.specs.Moment.{Moment, DateAndTime, OffsetDateAndTime, utc_date_and_time}
use Rattle.time_below.specs.OffsetText.{offset_text}
use Rattle.time_below.specs.TimeText.{time_text}

-- the date, a space and the time
abbrev pub plain_text : DateAndTime → List ℕ
plain_text t = date_text t.date ++ codes " " ++ time_text t.time

-- the same in UTC, whose offset has two digits
abbrev pub utc_text : DateAndTime → List ℕ
utc_text t = date_text t.date ++ codes " " ++ time_text t.time ++ codes " +00"

-- the date, the time and the offset
abbrev pub local_text : OffsetDateAndTime → List ℕ
local_text t = date_text t.date ++ codes " " ++ time_text t.time ++ codes " " ++ offset_text t.offset

-- a moment by its date and time in UTC
abbrev pub moment_text : Moment → List ℕ
moment_text m = utc_text (utc_date_and_time m)
