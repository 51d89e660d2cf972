-- The two calendars are one.
use Rattle.std.proofs.Common.{◌≡◌, ℕ, zero, suc, ◌+◌, ◌-◌, ◌*◌, ◌<◌, ◌≤◌, refl, sym, ap, ◌∙◌, subst, arith, ℤ, pos, negsuc, ◌+ℤ◌, ◌-ℤ◌, ◌*ℤ◌}
use Rattle.std.proofs.lemmas.Bool.Decides.{nat_tests}
use Rattle.std.proofs.lemmas.Int.{ints}
use Rattle.jiff.specs.ZonedView.{plain_zoned, zoned_nanos, zoned_date, zoned_time}
use Rattle.jiff.specs.declared.zoned.Zoned.{Zoned}
use Rattle.jiff_core.specs.Calendar.{IsYear as IsTheirYear, is_leap_year as their_leap, days_in_month as their_month, days_of_months as their_months, days_of_years as their_years, day_count, days_from_civil}
use Rattle.jiff_core.specs.DateTime.{civil_nanos}
use Rattle.jiff_core.specs.March.{march_days}
use Rattle.jiff_core.specs.declared.civil.date.Date.{Date}
use Rattle.jiff_core.specs.declared.civil.datetime.DateTime.{DateTime}
use Rattle.jiff_core.proofs.CalendarLemmas.{day_count-epoch}
use Rattle.jiff_core.proofs.MarchLemmas.{march_days-suc, days_of_years-march_days}
use Rattle.time_below.specs.Calendar.{IsDate, IsYear, is_leap_year as our_leap, days_in_month as our_month, days_of_months as our_months, day_number, date_of}
use Rattle.time_below.specs.Moment.{Moment, DateAndTime, OffsetDateAndTime, IsMoment, unix_day, unix_seconds, utc_date_and_time}
use Rattle.time_below.specs.Offset.{offset_seconds}
use Rattle.time_below.specs.TimeOfDay.{IsTimeOfDay}
use Rattle.time_below.proofs.CalendarLemmas.{days_of_years as our_years, day_number_from_start}
use Rattle.time_below.proofs.MomentLemmas.{only_utc, IsTimestampSecond-unix_seconds}
use Rattle.time_below.proofs.MonthLemmas.{IsDate-date_of}
use Rattle.time_jiff.specs.Same.{local_nanoseconds, same_date, same_time}

same_leap : (y : ℤ) → our_leap y ≡ their_leap y
same_leap y = grind (arith, nat_tests)

same_month : (y : ℤ) (m : ℕ) → our_month (our_leap y) m ≡ their_month y m
same_month y m = rw (same_leap y) refl

same_months : (y : ℤ) (n : ℕ) → our_months (our_leap y) n ≡ their_months y n
unfolding our_months their_months
same_months y zero = refl
same_months y (suc n) = rw (same_months y n, same_month y (suc n)) refl

-- the years before, counted from -10000 and from -999999
their_years_are : (k : ℕ) → their_years (suc k) ≡ march_days k + 366
their_years_are k = omega (arith, days_of_years-march_days (suc k), march_days-suc k)

our_years_are : (k : ℕ) → our_years (k + 990_000) ≡ march_days k + 361_590_075
our_years_are k = omega arith

count_is : (y : ℤ) (m d k : ℕ) → y +ℤ pos 10000 ≡ pos (suc k)
    → day_count y m d ≡ their_years (suc k) + (their_months y (m - 1) + d - 1)
unfolding day_count
count_is y m d k e = rw e refl

civil_is : (y : ℤ) (m d : ℕ) → days_from_civil y m d ≡ pos (day_count y m d) -ℤ pos 4_371_953
unfolding days_from_civil
civil_is y m d = rw day_count-epoch refl

joined : (dn civ : ℤ) (a o mo d dc m : ℕ) → dn +ℤ pos 365_242_500 ≡ pos (a + o - 1) → a ≡ m + 361_590_075
    → o ≡ mo + d → 1 ≤ d → dc ≡ (m + 366) + (mo + d - 1) → civ ≡ pos dc -ℤ pos 4_371_953
    → dn ≡ civ +ℤ pos 719_162
joined dn civ a o mo d dc m ours years ordinal one theirs civil = omega (arith, ints)

year_from : (y : ℤ) (k : ℕ) → y +ℤ pos 10000 ≡ pos (suc k) → y +ℤ pos 999_999 ≡ pos (k + 990_000)
year_from y k e = omega (arith, ints)

-- a date has one day number: they count from 1970-01-01, we from 0001-01-01
days_agree : (y : ℤ) (m d k : ℕ) → y +ℤ pos 10000 ≡ pos (suc k) → 1 ≤ d
    → day_number (date_of y m d) ≡ days_from_civil y m d +ℤ pos unix_day
days_agree y m d k e one =
    joined _ _ (our_years (k + 990_000)) (our_months (our_leap y) (m - 1) + d) (their_months y (m - 1)) d (day_count y m d)
    (march_days k)
    (day_number_from_start (date_of y m d) (k + 990_000) (year_from y k e) (omega (arith, one)))
    (our_years_are k)
    (ap (λ (x : ℕ). x + d) (same_months y (m - 1))) one
    (count_is y m d k e ∙ ap (λ (x : ℕ). x + (their_months y (m - 1) + d - 1)) (their_years_are k))
    (civil_is y m d)

years_from : (y : ℤ) → IsTheirYear y → (k : ℕ) × (y +ℤ pos 10000 ≡ pos (suc k))
years_from (pos n) h = (n + 9999, omega (arith, ints))
years_from (negsuc n) h = (9998 - n, omega (arith, ints))

pub same_day : (d : Date) → day_number (same_date d) ≡ days_from_civil d.year d.month d.day +ℤ pos unix_day
same_day d =
    let k = years_from d.year d.year_in in
    days_agree d.year d.month d.day k.0 k.1 d.day_in.0

same_size : (y : ℤ) → IsTheirYear y → IsYear y
same_size (pos n) h = omega (arith, ints)
same_size (negsuc n) h = omega (arith, ints)

same_date_is : (d : Date) → IsDate (same_date d)
same_date_is d =
    IsDate-date_of d.year d.month d.day (same_size d.year d.year_in) d.month_in
    (d.day_in.0, subst (λ n. d.day ≤ n) (sym (same_month d.year d.month)) d.day_in.1)

-- a number of nanoseconds has one second
one_second : (a b : ℤ) (n k : ℕ) → n < 1_000_000_000 → k < 1_000_000_000
    → a *ℤ pos 1_000_000_000 +ℤ pos n ≡ b *ℤ pos 1_000_000_000 +ℤ pos k → (a ≡ b) × (n ≡ k)
one_second a b n k x y e = (omega (arith, ints), omega (arith, ints))

in_seconds : (civil day day_number sum : ℤ) (h m s n : ℕ)
    → civil ≡ day *ℤ pos 86_400_000_000_000 +ℤ pos ((h * 3600 + m * 60 + s) * 1_000_000_000 + n)
    → day_number ≡ day +ℤ pos 719_162
    → civil ≡ sum
    → ((day_number -ℤ pos 719_162) *ℤ pos 86_400 +ℤ pos (3600 * h + 60 * m + s)) *ℤ pos 1_000_000_000 +ℤ pos n ≡ sum
in_seconds civil day day_number sum h m s n is agree shown = omega (arith, ints)

civil_nanos_is : (dt : DateTime) → civil_nanos dt
    ≡ days_from_civil dt.date.year dt.date.month dt.date.day *ℤ pos 86_400_000_000_000
    +ℤ pos ((dt.time.hour * 3600 + dt.time.minute * 60 + dt.time.second) * 1_000_000_000 + dt.time.subsec_nanosecond)
unfolding civil_nanos
civil_nanos_is dt = refl

-- the date and the time that they show are those that we show
pub same_shown : (dt : DateTime) (m : Moment) → IsMoment m
    → civil_nanos dt ≡ m.seconds *ℤ pos 1_000_000_000 +ℤ pos m.nanosecond
    → ◌≡◌ {A = DateAndTime} (record { date = same_date dt.date; time = same_time dt.time; offset = tt }) (utc_date_and_time m)
same_shown dt m real shown =
    let t = dt.time in
    let parts = one_second (unix_seconds (record { date = same_date dt.date; time = same_time dt.time; offset = tt })) m.seconds
    t.subsec_nanosecond m.nanosecond t.subsec_in real.1
    (in_seconds (civil_nanos dt) (days_from_civil dt.date.year dt.date.month dt.date.day) (day_number (same_date dt.date)) _
    t.hour t.minute t.second t.subsec_nanosecond (civil_nanos_is dt) (same_day dt.date) shown) in
    only_utc m (record { date = same_date dt.date; time = same_time dt.time; offset = tt }) (same_date_is dt.date)
    (t.hour_in, t.minute_in, t.second_in, t.subsec_in) parts.0 parts.1

clock_sum : (civil n ahead u o : ℤ) (k : ℕ) → civil ≡ n +ℤ ahead *ℤ pos 1_000_000_000
    → n ≡ pos 1_000_000_000 *ℤ (u -ℤ o) +ℤ pos k → ahead ≡ o → civil ≡ u *ℤ pos 1_000_000_000 +ℤ pos k
clock_sum civil n ahead u o k shows moment offset = omega (arith, ints)

-- of one moment at one offset they show the date and the time that we have
pub same_clock : (z : Zoned) (t : OffsetDateAndTime) → IsDate t.date → IsTimeOfDay t.time
    → zoned_nanos z ≡ local_nanoseconds t → (plain_zoned z).offset.seconds ≡ offset_seconds t.offset
    → ◌≡◌ {A = DateAndTime} (record { date = same_date (zoned_date z); time = same_time (zoned_time z); offset = tt })
    (record { date = t.date; time = t.time; offset = tt })
same_clock z t date time moment offset =
    let shown : DateAndTime = record { date = t.date; time = t.time; offset = tt } in
    let m : Moment = record { seconds = unix_seconds shown; nanosecond = t.time.nanosecond } in
    let real : IsMoment m = (IsTimestampSecond-unix_seconds shown date time, time.3) in
    same_shown (plain_zoned z).datetime m real
    (clock_sum (civil_nanos (plain_zoned z).datetime) (zoned_nanos z) (plain_zoned z).offset.seconds (unix_seconds shown)
    (offset_seconds t.offset) t.time.nanosecond (plain_zoned z).shows moment offset)
    ∙ sym (only_utc m shown date time refl refl)
