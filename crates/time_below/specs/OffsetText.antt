-- The text of an offset: `+05:30:00`.
use Rattle.std.specs.Prelude.{ℕ, List, ◌++◌, codes, unsigned_abs, if◌then◌else◌}
use Rattle.time_below.specs.Text.{two_digits}
use Rattle.time_below.specs.Offset.{Offset, is_negative}

-- a sign, and two digits each of the hours, the minutes and the seconds
abbrev pub offset_text : Offset → List ℕ
offset_text o =
    (if is_negative o then codes "-" else codes "+") ++ two_digits (unsigned_abs o.hours) ++ codes ":"
    ++ two_digits (unsigned_abs o.minutes)
    ++ codes ":"
    ++ two_digits (unsigned_abs o.seconds)
