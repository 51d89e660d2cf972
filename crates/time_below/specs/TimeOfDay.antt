-- The time of day (ISO 8601-1:2019, 4.3.8 to 4.3.10), without leap seconds.
use Rattle.std.specs.Prelude.{ℕ, List, ◌+◌, ◌*◌, ◌/◌, ◌%◌, ◌<◌, nat_lt, codes, if◌then◌else◌}
use Rattle.time_below.specs.declared.period.Period.{Period}
use Rattle.time_below.specs.declared.period.Period.TheVariants.{Am, Pm}

pub record TimeOfDay : Type 0 where
  pub hour : ℕ
  pub minute : ℕ
  pub second : ℕ
  pub nanosecond : ℕ

-- the parts are in their ranges
abbrev pub IsTimeOfDay : TimeOfDay → Type 0
IsTimeOfDay t = (t.hour < 24) × (t.minute < 60) × (t.second < 60) × (t.nanosecond < 1_000_000_000)

-- the time of an hour, a minute, a second and a nanosecond
abbrev pub time_of : ℕ → ℕ → ℕ → ℕ → TimeOfDay
time_of hour minute second nanosecond =
    record { hour = hour; minute = minute; second = second; nanosecond = nanosecond }

-- the name of the first part outside its range, or of the part of the second if the others are in theirs
abbrev pub first_outside : ℕ → ℕ → ℕ → List ℕ → List ℕ
first_outside hour minute second subsecond =
    if nat_lt hour 24
    then (if nat_lt minute 60 then (if nat_lt second 60 then subsecond else codes "second") else codes "minute")
    else codes "hour"

-- the half of the day: before noon, or from noon on
abbrev pub period_of : TimeOfDay → Period
period_of t = if nat_lt t.hour 12 then Am else Pm

-- the whole seconds from midnight to a time
abbrev pub seconds_from_midnight : TimeOfDay → ℕ
seconds_from_midnight t = 3600 * t.hour + 60 * t.minute + t.second

-- the time this many whole seconds after midnight
abbrev pub time_at : ℕ → ℕ → TimeOfDay
time_at passed nanosecond =
    record {
      hour = passed / 3600;
      minute = passed % 3600 / 60;
      second = passed % 60;
      nanosecond = nanosecond;
    }
