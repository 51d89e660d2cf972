-- The UTC date and time of a moment, and its milliseconds.
use Rattle.std.proofs.Common.{◌≡◌, ℕ, ◌+◌, ◌*◌, ◌/◌, ◌%◌, ◌<◌, refl, ap, ◌∙◌, arith, ℤ, pos, ◌+ℤ◌, ◌-ℤ◌, ◌*ℤ◌}
use Rattle.std.proofs.Common.{◌^◌, unsigned_abs, rules, w32, w64, to_z, of_z}
use Rattle.std.proofs.lemmas.Int.{ints}
use Rattle.std.specs.Int.{int_div_euclid}
use Rattle.std.specs.Prelude.{int_div, ◌≤◌, ◌≤ℤ◌, ◌<ℤ◌}
use Rattle.time_below.specs.Calendar.{OrdinalDate, IsDate, IsDayNumber, day_number, date_at, days_before, days_in_all}
use Rattle.time_below.specs.TimeOfDay.{TimeOfDay, IsTimeOfDay, seconds_from_midnight, time_at}
use Rattle.time_below.specs.Offset.{Offset, AreOffsetParts, IsOffset, offset_seconds}
use Rattle.time_below.specs.Moment.{Moment, DateAndTime, OffsetDateAndTime, IsMoment, IsTimestampSecond}
use Rattle.time_below.specs.Moment.{IsNearTimestampSecond, unix_seconds, local_unix_seconds, utc_date, utc_time}
use Rattle.time_below.specs.Moment.{utc_date_and_time, second_of_day, day_seconds, unix_day, seconds_before, moved}
use Rattle.time_below.specs.Moment.{local_at, local_moment, nanoseconds}
use Rattle.time_below.proofs.CalendarLemmas.{utc_day, second_from_start}
use Rattle.time_below.proofs.OffsetLemmas.{held_word}
use Rattle.time_below.proofs.YearLemmas.{IsDayNumber-day_number, IsDate-date_at, date_at-day_number, day_number_back}
use Rattle.time_below.proofs.YearLemmas.{days_from_start, days_before_end, is_day_number}
use Rattle.std.proofs.lemmas.Grind.{common_steps}

-- the seconds from -999999-01-01

-- a second of a timestamp is not before the start
seconds_from_start : (s : ℤ) → IsTimestampSecond s
    → s +ℤ pos seconds_before ≡ pos (unsigned_abs (s +ℤ pos seconds_before))
seconds_from_start s h = grind (arith, common_steps, ints)

-- the day number of a second
abbrev day_of_second : ℤ → ℤ
day_of_second s = int_div_euclid s (pos day_seconds) +ℤ pos unix_day

-- the day of a second is one of the calendar
day_within : (s : ℤ) → IsTimestampSecond s → IsDayNumber (day_of_second s)
day_within s h = grind (arith, seconds_from_start, is_day_number, utc_day, ints)

-- the UTC date of a moment is one of the calendar
pub IsDate-utc_date : (m : Moment) → IsMoment m → IsDate (utc_date m.seconds)
IsDate-utc_date m h = IsDate-date_at (day_of_second m.seconds) (day_within m.seconds h.0)

-- the UTC time of a moment is a time of day
pub IsTimeOfDay-utc_time : (m : Moment) → IsMoment m → IsTimeOfDay (utc_time m)
IsTimeOfDay-utc_time m h = grind (arith, second_from_start, seconds_from_start)

-- the seconds from midnight to the time this many seconds after it
seconds_of_time_at : (passed nanosecond : ℕ)
    → seconds_from_midnight (time_at passed nanosecond) ≡ passed
seconds_of_time_at passed nanosecond = omega arith

-- whole days and the second of the day make the second again
days_and_second_joined : (s d z : ℤ) (n r p : ℕ) → s +ℤ pos seconds_before ≡ pos n → d ≡ z
    → pos (n / day_seconds) -ℤ pos days_before ≡ z → r ≡ n % day_seconds → p ≡ r
    → (d -ℤ pos unix_day) *ℤ pos day_seconds +ℤ pos p ≡ s
days_and_second_joined s d z n r p e same day rest parts = omega (arith, ints)

-- the UTC date and time of a moment have its seconds
pub unix_seconds-utc : (m : Moment) → IsMoment m → unix_seconds (utc_date_and_time m) ≡ m.seconds
unix_seconds-utc m h =
    let n = unsigned_abs (m.seconds +ℤ pos seconds_before) in
    let e = seconds_from_start m.seconds h.0 in
    days_and_second_joined m.seconds (day_number (utc_date m.seconds)) (day_of_second m.seconds) n
    (second_of_day m.seconds) _ e
    (day_number_back (day_of_second m.seconds) (day_within m.seconds h.0))
    (utc_day m.seconds n e)
    (second_from_start m.seconds n e)
    (seconds_of_time_at (second_of_day m.seconds) m.nanosecond)

-- a date and a time in UTC have one moment

-- whole days and the second of a day, taken apart again
day_and_second_taken_apart : (k p : ℕ) → p < day_seconds
    → ((k * day_seconds + p) / day_seconds ≡ k) × ((k * day_seconds + p) % day_seconds ≡ p)
day_and_second_taken_apart k p h = (omega arith, omega arith)

-- equal parts make equal times
equal_parts_make_equal_times : (h a m b s c n : ℕ) → h ≡ a → m ≡ b → s ≡ c
    → ◌≡◌ {A = TimeOfDay} (record { hour = h; minute = m; second = s; nanosecond = n })
    (record { hour = a; minute = b; second = c; nanosecond = n })
equal_parts_make_equal_times h a m b s c n hours minutes seconds = rw (hours, minutes, seconds) refl

-- a time is the one this many seconds after midnight
time_at-seconds_from_midnight : (t : TimeOfDay) → IsTimeOfDay t
    → time_at (seconds_from_midnight t) t.nanosecond ≡ t
time_at-seconds_from_midnight t h = grind (arith, equal_parts_make_equal_times)

-- a time of day ends within its day
pub within_day : (t : TimeOfDay) → IsTimeOfDay t → seconds_from_midnight t < day_seconds
within_day t h = omega arith

-- the seconds of a day and a time, counted from the start
unix_shifted : (d : ℤ) (k p : ℕ) → d +ℤ pos days_before ≡ pos k
    → (d -ℤ pos unix_day) *ℤ pos day_seconds +ℤ pos p +ℤ pos seconds_before ≡ pos (k * day_seconds + p)
unix_shifted d k p e = omega (arith, ints)

-- days and seconds within the calendar make a second of a timestamp
is_timestamp_second : (s : ℤ) (k p : ℕ) → s +ℤ pos seconds_before ≡ pos (k * day_seconds + p)
    → k < days_in_all → p < day_seconds → IsTimestampSecond s
is_timestamp_second s k p e h r = (omega (arith, ints), omega (arith, ints))

-- the seconds of a date and a time in UTC are those of a timestamp
pub IsTimestampSecond-unix_seconds : (t : DateAndTime) → IsDate t.date → IsTimeOfDay t.time
    → IsTimestampSecond (unix_seconds t)
IsTimestampSecond-unix_seconds t h r =
    let d = day_number t.date in
    let number = IsDayNumber-day_number t.date h in
    let k = unsigned_abs (d +ℤ pos days_before) in
    let e = days_from_start d number in
    let p = seconds_from_midnight t.time in
    is_timestamp_second (unix_seconds t) k p (unix_shifted d k p e) (days_before_end d k number e)
    (within_day t.time r)

-- one count from the start is one day
one_count_is_one_day : (z d : ℤ) (n k : ℕ) → pos n -ℤ pos days_before ≡ z → n ≡ k
    → d +ℤ pos days_before ≡ pos k → z ≡ d
one_count_is_one_day z d n k e same f = omega (arith, ints)

-- the day and the second of the day of a date and a time
day_back : (t : DateAndTime) → IsDate t.date → IsTimeOfDay t.time
    → (utc_date (unix_seconds t) ≡ t.date) × (second_of_day (unix_seconds t) ≡ seconds_from_midnight t.time)
day_back t h r =
    let d = day_number t.date in
    let k = unsigned_abs (d +ℤ pos days_before) in
    let e = days_from_start d (IsDayNumber-day_number t.date h) in
    let p = seconds_from_midnight t.time in
    let shifted = unix_shifted d k p e in
    let parts = day_and_second_taken_apart k p (within_day t.time r) in
    let same =
    one_count_is_one_day (day_of_second (unix_seconds t)) d _ k
    (utc_day (unix_seconds t) (k * day_seconds + p) shifted) parts.0 e
    in (
      ap date_at same ∙ date_at-day_number t.date h,
      second_from_start (unix_seconds t) (k * day_seconds + p) shifted
          ∙ parts.1,
    )

-- equal parts make equal dates with times
pub same_date_and_time : (d e : OrdinalDate) (t u : TimeOfDay) → d ≡ e → t ≡ u
    → ◌≡◌ {A = DateAndTime} (record { date = d; time = t; offset = tt }) (record { date = e; time = u; offset = tt })
same_date_and_time d e t u same alike = rw (same, alike) refl

-- the UTC date and time of a moment are the only ones that have its seconds
pub only_utc : (m : Moment) (t : DateAndTime) → IsDate t.date → IsTimeOfDay t.time
    → unix_seconds t ≡ m.seconds → t.time.nanosecond ≡ m.nanosecond → t ≡ utc_date_and_time m
only_utc m t h r seconds nanosecond = grind (arith, day_back, time_at-seconds_from_midnight, same_date_and_time)

-- a local date and time

-- an offset is less than 26 hours
offset_within : (o : Offset) → AreOffsetParts o.hours o.minutes o.seconds
    → unsigned_abs (offset_seconds o) < 93_600
offset_within o h = omega (arith, ints)

-- less than 26 hours from a second of a timestamp
pub near_timestamp_second : (s o : ℤ) → IsTimestampSecond s → unsigned_abs o < 93_600 → IsNearTimestampSecond (s -ℤ o)
near_timestamp_second s o h k = (omega (arith, ints), omega (arith, ints))

-- the seconds of a local date and time are less than 26 hours outside the range
pub IsNearTimestampSecond-local_unix_seconds : (t : OffsetDateAndTime) → IsDate t.date
    → IsTimeOfDay t.time → IsOffset t.offset → IsNearTimestampSecond (local_unix_seconds t)
IsNearTimestampSecond-local_unix_seconds t h r o =
    search (rules, arith, common_steps, near_timestamp_second, IsTimestampSecond-unix_seconds, offset_within)

-- seconds as the code holds them
abbrev pub held : ℤ → ℤ
held s = to_z w64 (of_z w64 s)

-- they are held as they are
pub held_small : (s : ℤ) → unsigned_abs s < 2 ^ 62 → held s ≡ s
held_small s h = omega (arith, ints)

pub held_near_second : (s : ℤ) → IsNearTimestampSecond s → held s ≡ s
held_near_second s h = omega (arith, ints)

pub held_second : (s : ℤ) → IsTimestampSecond s → held s ≡ s
held_second s h = omega (arith, ints)

-- a second by clocks at an offset is held as it is
pub held_by_clocks : (s o : ℤ) → IsNearTimestampSecond s → unsigned_abs o < 93_600
    → held (held s +ℤ held (to_z w32 (of_z w32 o))) ≡ s +ℤ o
held_by_clocks s o h k =
    rw (held_near_second s h, held_word o (omega arith), held_small o (omega arith))
    (held_small (s +ℤ o) (omega (arith, ints)))

-- the size of such a second is less than 2 ^ 62
pub clocks_within : (s o : ℤ) → IsNearTimestampSecond s → unsigned_abs o < 93_600 → unsigned_abs (s +ℤ o) < 2 ^ 62
clocks_within s o h k = omega (arith, ints)

-- milliseconds are held as they are: a thousand to each second, and at most a thousand more
pub held_thousands : (s : ℤ) (k : ℕ) → IsNearTimestampSecond s → k ≤ 1000
    → held (held (held s *ℤ pos 1000) +ℤ to_z w64 k) ≡ s *ℤ pos 1000 +ℤ pos k
held_thousands s k h l =
    let small : to_z w64 k ≡ pos k = omega (arith, ints) in
    rw (held_near_second s h, held_small (s *ℤ pos 1000) (omega (arith, ints)), small)
    (held_small (s *ℤ pos 1000 +ℤ pos k) (omega (arith, ints)))

-- milliseconds have at most 17 digits
pub thousands_within : (s : ℤ) (k : ℕ) → IsNearTimestampSecond s → k ≤ 1000
    → unsigned_abs (s *ℤ pos 1000 +ℤ pos k) < 100_000_000_000_000_000
thousands_within s k h l = omega (arith, ints)

-- the second of a day is held as it is: its midnight, and less than a day more
pub held_in_day : (s : ℤ) (n : ℕ) → IsTimestampSecond s → n < day_seconds → held (held s +ℤ to_z w64 n) ≡ s +ℤ pos n
held_in_day s n h l = omega (arith, ints)

-- a second between the first and the last of a day
pub second_in_day : (s : ℤ) (n : ℕ) → IsTimestampSecond s → IsTimestampSecond (s +ℤ pos 86_399) → n < day_seconds
    → IsTimestampSecond (s +ℤ pos n)
second_in_day s n h k l = (omega (arith, ints), omega (arith, ints))

-- the seconds by clocks, less how far they are ahead
less_offset : (all s e : ℤ) → all ≡ s +ℤ e → all -ℤ e ≡ s
less_offset all s e h = omega (arith, ints)

-- the local date and time of a moment have its seconds
pub local_unix_seconds-local_at : (m : Moment) (o : Offset) → IsMoment (moved m o)
    → local_unix_seconds (local_at m o) ≡ m.seconds
local_unix_seconds-local_at m o h = less_offset _ m.seconds (offset_seconds o) (unix_seconds-utc (moved m o) h)

-- equal seconds and nanoseconds make equal moments
pub same_moment : (s t : ℤ) (n k : ℕ) → s ≡ t → n ≡ k
    → ◌≡◌ {A = Moment} (record { seconds = s; nanosecond = n }) (record { seconds = t; nanosecond = k })
same_moment s t n k e f = rw (e, f) refl

-- the local date and time of a moment are of that moment
pub local_moment-local_at : (m : Moment) (o : Offset) → IsMoment (moved m o) → local_moment (local_at m o) ≡ m
local_moment-local_at m o h = same_moment _ m.seconds _ m.nanosecond (local_unix_seconds-local_at m o h) refl

-- the seconds of UTC, and how far clocks are ahead
more_offset : (all s e : ℤ) → all -ℤ e ≡ s → all ≡ s +ℤ e
more_offset all s e h = omega (arith, ints)

-- a date and a time beside one offset
at_same_offset : (d e : OrdinalDate) (t u : TimeOfDay) (o : Offset)
    → ◌≡◌ {A = DateAndTime} (record { date = d; time = t; offset = tt }) (record { date = e; time = u; offset = tt })
    → ◌≡◌ {A = OffsetDateAndTime} (record { date = d; time = t; offset = o }) (record { date = e; time = u; offset = o })
at_same_offset d e t u o same = ap (λ (x : DateAndTime). record { date = x.date; time = x.time; offset = o }) same

-- no others have them
pub only_local_at : (m : Moment) (t : OffsetDateAndTime) → IsDate t.date → IsTimeOfDay t.time
    → local_unix_seconds t ≡ m.seconds → t.time.nanosecond ≡ m.nanosecond → t ≡ local_at m t.offset
only_local_at m t h r seconds nanosecond =
    at_same_offset t.date _ t.time _ t.offset
    (only_utc (moved m t.offset) (record { date = t.date; time = t.time; offset = tt }) h r (more_offset _ m.seconds _ seconds) nanosecond)

-- moments by their nanoseconds

-- a number of nanoseconds has one second and one nanosecond
parts_of_nanoseconds : (s t : ℤ) (n k : ℕ) → n < 1_000_000_000 → k < 1_000_000_000
    → pos 1_000_000_000 *ℤ s +ℤ pos n ≡ pos 1_000_000_000 *ℤ t +ℤ pos k → (s ≡ t) × (n ≡ k)
parts_of_nanoseconds s t n k h l e = (omega (arith, ints), omega (arith, ints))

-- no two moments have as many nanoseconds
pub one_moment_of_nanoseconds : (m n : Moment) → m.nanosecond < 1_000_000_000 → n.nanosecond < 1_000_000_000
    → nanoseconds m ≡ nanoseconds n → m ≡ n
one_moment_of_nanoseconds m n h l e =
    let same = parts_of_nanoseconds m.seconds n.seconds m.nanosecond n.nanosecond h l e in
    same_moment m.seconds n.seconds m.nanosecond n.nanosecond same.0 same.1

-- the nanoseconds from the start, split into seconds and nanoseconds
pub nanoseconds_split : (z : ℤ) (n : ℕ) → z +ℤ pos (1_000_000_000 * seconds_before) ≡ pos n
    → pos 1_000_000_000 *ℤ (pos (n / 1_000_000_000) -ℤ pos seconds_before) +ℤ pos (n % 1_000_000_000) ≡ z
nanoseconds_split z n e = omega (arith, ints)

-- a quotient that is rounded toward zero, from 1970 on and before
pub rounded_down : (s : ℤ) (n : ℕ) → pos 0 ≤ℤ s
    → s *ℤ pos 1000 +ℤ pos (n / 1_000_000) ≡ int_div (pos 1_000_000_000 *ℤ s +ℤ pos n) (pos 1_000_000)
rounded_down s n h = grind (arith, common_steps, ints)

pub rounded_up : (s : ℤ) (n : ℕ) → s <ℤ pos 0 → n < 1_000_000_000
    → s *ℤ pos 1000 +ℤ pos ((n + 999_999) / 1_000_000) ≡ int_div (pos 1_000_000_000 *ℤ s +ℤ pos n) (pos 1_000_000)
rounded_up s n h l = grind (arith, common_steps, ints)

-- what the laws of moments say
pub ruleset laws_of_moments = (unix_seconds-utc, only_utc, local_unix_seconds-local_at, only_local_at)
