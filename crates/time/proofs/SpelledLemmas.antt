-- The moments of texts with a year of four digits are in the range of a timestamp.
use Rattle.std.proofs.Common.{◌≡◌, ℕ, ◌+◌, ◌≤◌, ◌<◌, List, ap, ◌∙◌, arith, ℤ, pos, ◌+ℤ◌, ◌-ℤ◌, ◌*ℤ◌, unsigned_abs}
use Rattle.std.proofs.lemmas.Int.{ints}
use Rattle.time_below.proofs.CalendarLemmas.{day_number_from_start, days_below}
use Rattle.time_below.proofs.MomentLemmas.{within_day}
use Rattle.time_below.specs.Calendar.{OrdinalDate, IsDate, day_number, days_before}
use Rattle.time_below.specs.Moment.{IsTimestampSecond, OffsetDateAndTime, day_seconds, local_unix_seconds, unix_day}
use Rattle.time_below.specs.Offset.{IsOffset, offset_seconds}
use Rattle.time_below.specs.TimeOfDay.{IsTimeOfDay, seconds_from_midnight}
use Rattle.time_known.proofs.Rules.Texts.{digits_below}
use Rattle.time_known.specs.Rfc2822Grammar.{Rfc2822Spells}
use Rattle.time_known.specs.Rfc3339Grammar.{Rfc3339Spells}

-- a second of a day that is far from the ends, at any offset
far_from_ends : (d o : ℤ) (k p : ℕ) → d +ℤ pos days_before ≡ pos k → 365_000_000 ≤ k → k < 370_000_000
    → p < day_seconds → unsigned_abs o < 93_600
    → IsTimestampSecond ((d -ℤ pos unix_day) *ℤ pos day_seconds +ℤ pos p -ℤ o)
far_from_ends d o k p e low high day offset = (omega (arith, ints), omega (arith, ints))

-- the seconds of a date and time of the years 0 to 9,999
in_range : (v : OffsetDateAndTime) (year : ℕ) → IsDate v.date → IsTimeOfDay v.time → IsOffset v.offset
    → v.date.year ≡ pos year → year ≤ 9_999 → IsTimestampSecond (local_unix_seconds v)
in_range v year h t o e small =
    let n = year + 999_999 in
    let day = day_number_from_start v.date n (omega (arith, ints, e)) h.1.0 in
    far_from_ends (day_number v.date) (offset_seconds v.offset) _ (seconds_from_midnight v.time) day
    (omega (arith, h.1.0)) (omega (arith, small, h.1.1, days_below v.date.year)) (within_day v.time t) (omega (arith, ints, o.0))

-- those that a text of RFC 3339 spells
pub rfc3339_in_range : (v : OffsetDateAndTime) (text : List ℕ) → Rfc3339Spells v text → IsDate v.date
    → IsTimeOfDay v.time → IsOffset v.offset → IsTimestampSecond (local_unix_seconds v)
rfc3339_in_range v text s h t o =
    let date = s.first in
    let year = date.spelled.first in
    in_range v year.size h t o (ap (λ (d : OrdinalDate). d.year) date.is ∙ year.is)
    (omega (arith, digits_below year.spelled))

-- those that a text of RFC 2822 spells
pub rfc2822_in_range : (v : OffsetDateAndTime) (text : List ℕ) → Rfc2822Spells v text → IsDate v.date
    → IsTimeOfDay v.time → IsOffset v.offset → IsTimestampSecond (local_unix_seconds v)
rfc2822_in_range v text s h t o =
    let date = s.0.first in
    let year = date.spelled.second.second.second.second.second.second in
    in_range v date.year h t o (ap (λ (d : OrdinalDate). d.year) date.is) (omega (arith, digits_below year))
