-- The moment, and the date and time in UTC, that a local date and time has, if its year in UTC is in range.
use Rattle.std.specs.Prelude.{◌≡◌, Result, MatchResult, codes}
use Rattle.time_below.specs.ComponentRange.{range_refusal, unconditional_range}
use Rattle.time_below.specs.declared.component_range.ComponentRange.{ComponentRange}
use Rattle.time_below.specs.Moment.{Moment, DateAndTime, OffsetDateAndTime, IsTimestampSecond, local_moment}
use Rattle.time_below.specs.Moment.{local_unix_seconds, utc_date_and_time}

-- the refusal of a year in UTC
abbrev pub IsYearRefusal : ComponentRange → Type 0
IsYearRefusal refusal = range_refusal refusal ≡ unconditional_range (codes "year")

-- the moment, or the refusal of one whose year is out of range
abbrev pub IsMomentOf : OffsetDateAndTime → Result Moment ComponentRange → Type 0
IsMomentOf t made =
    MatchResult made (λ m. IsTimestampSecond m.seconds × (m ≡ local_moment t))
    (λ refusal. (¬ IsTimestampSecond (local_unix_seconds t)) × IsYearRefusal refusal)

-- the date and time in UTC, or the same refusal
abbrev pub IsInUtcOf : OffsetDateAndTime → Result DateAndTime ComponentRange → Type 0
IsInUtcOf t made =
    MatchResult made (λ u. IsTimestampSecond (local_unix_seconds t) × (u ≡ utc_date_and_time (local_moment t)))
    (λ refusal. (¬ IsTimestampSecond (local_unix_seconds t)) × IsYearRefusal refusal)
