-- The text of a time of day: `9:55:06.12`.
use Rattle.std.specs.Prelude.{ℕ, List, ◌++◌, codes}
use Rattle.std.specs.Fmt.{decimal}
use Rattle.time_below.specs.Text.{two_digits, decimals}
use Rattle.time_below.specs.TimeOfDay.{TimeOfDay}

-- the hour, two digits of the minute and of the second, and as many decimals as are needed, but at least one
abbrev pub time_text : TimeOfDay → List ℕ
time_text t =
    decimal t.hour ++ codes ":" ++ two_digits t.minute ++ codes ":" ++ two_digits t.second ++ codes "."
    ++ decimals 9 t.nanosecond
