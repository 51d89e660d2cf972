-- The moment that a reading of the system's clock shows.
use Rattle.std.specs.Prelude.{◌≡◌, Result, MatchResult, pos}
use Rattle.std.specs.Time.{system_time_nanos}
use Rattle.std.specs.declared.time.SystemTime.{SystemTime}
use Rattle.time_below.specs.declared.component_range.ComponentRange.{ComponentRange}
use Rattle.time_below.specs.InUtc.{IsYearRefusal}
use Rattle.time_below.specs.Moment.{Moment, IsMoment, IsTimestampNanosecond, nanoseconds}

-- the moment of as many nanoseconds since 1970, or the refusal of one past the last year
abbrev pub IsMomentShown : SystemTime → Result Moment ComponentRange → Type 0
IsMomentShown shown made =
    MatchResult made (λ m. IsMoment m × (nanoseconds m ≡ pos (system_time_nanos shown)))
    (λ refusal. (¬ IsTimestampNanosecond (pos (system_time_nanos shown))) × IsYearRefusal refusal)
