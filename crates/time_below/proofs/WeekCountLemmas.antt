-- The weeks of a year that begin on Monday, and on Sunday, count its days of that name.
use Rattle.std.proofs.Common.{◌≡◌, ℕ, zero, suc, ◌+◌, ◌-◌, ◌/◌, ◌%◌, ◌≤◌, ◌==◌, if◌then◌else◌, sym, ap, ap₂, ◌∙◌, arith}
use Rattle.std.proofs.Common.{ℤ, pos, ◌+ℤ◌, unsigned_abs}
use Rattle.std.proofs.lemmas.Bool.Decides.{nat_tests}
use Rattle.time_below.specs.Calendar.{OrdinalDate, IsDate, IsYear, weekday_of, days_of_name, monday_based_week_of}
use Rattle.time_below.specs.Calendar.{sunday_based_week_of, from_sunday, greatest_year}
use Rattle.time_below.proofs.CalendarLemmas.{days_of_years, day_number_from_start, weekday_from_start}
use Rattle.time_below.proofs.YearLemmas.{years_from_start}

-- how many of the n days after a place are at a place that seven divides
abbrev pub sevenths_after : ℕ → ℕ → ℕ
sevenths_after place n = (n + 6 - (place + n + 6) % 7) / 7

-- one day more counts if seven divides its place
sevenths-more : (place n : ℕ) → sevenths_after place n + (if (place + n) % 7 == 0 then 1 else 0) ≡ sevenths_after place (suc n)
sevenths-more place n = grind (arith, nat_tests)

-- the number of days of one name in the first n days of a year
pub days_of_name_counted : (weekday : ℕ) (y : ℤ) (place : ℕ)
    → ((n : ℕ) → (weekday_of (record { year = y; ordinal = suc n }) == weekday) ≡ ((place + n) % 7 == 0))
    → (n : ℕ) → days_of_name weekday y n ≡ sevenths_after place n
unfolding days_of_name
days_of_name_counted weekday y place same zero = omega arith
days_of_name_counted weekday y place same (suc n) =
    ap₂ (λ (i j : ℕ). i + j) (days_of_name_counted weekday y place same n) (ap (λ b. if b then 1 else 0) (same n))
    ∙ sevenths-more place n

-- how many days before a year the calendar has, from its start
abbrev start_of : ℤ → ℕ
start_of y = days_of_years (unsigned_abs (y +ℤ pos greatest_year))

-- the weekday of a day of a year
weekday_in_year : (d : OrdinalDate) → IsYear d.year → 1 ≤ d.ordinal
    → weekday_of d ≡ (start_of d.year + d.ordinal - 1) % 7
weekday_in_year d year one = grind (arith, day_number_from_start, years_from_start, weekday_from_start)

-- the weekday of the day after the first n days of a year
weekday_after : (y : ℤ) → IsYear y → (n : ℕ) → weekday_of (record { year = y; ordinal = suc n }) ≡ (start_of y + n) % 7
weekday_after y year n = omega (arith, weekday_in_year)

-- a Sunday is at place 6 of a week from Monday, and at place 0 of one from Sunday
sunday_is_first : (place n : ℕ) → ((place + n) % 7 == 6) ≡ ((place + 1 + n) % 7 == 0)
sunday_is_first place n = grind (arith, nat_tests)

-- a place and the place of the week before it
week_before : (k : ℕ) → 1 ≤ k → (k - 1) % 7 ≡ (k + 6) % 7
week_before k one = omega arith

-- the weeks that begin on Monday count the Mondays
pub mondays_counted : (d : OrdinalDate) → IsDate d → monday_based_week_of d ≡ days_of_name 0 d.year d.ordinal
mondays_counted d h = grind (arith, days_of_name_counted, weekday_after, weekday_in_year, week_before)

-- the weeks that begin on Sunday count the Sundays
pub sundays_counted : (d : OrdinalDate) → IsDate d → sunday_based_week_of d ≡ days_of_name 6 d.year d.ordinal
sundays_counted d h =
    let place = start_of d.year in
    let test = λ (n : ℕ). ap (λ k. k == 6) (weekday_after d.year h.0 n) ∙ sunday_is_first place n in
    let count = days_of_name_counted 6 d.year (place + 1) test d.ordinal in
    let day = weekday_in_year d h.0 h.1.0 in
    let same : from_sunday (weekday_of d) ≡ (place + 1 + d.ordinal + 6) % 7 = omega (arith, day, h.1.0) in
    ap (λ k. (d.ordinal + 6 - k) / 7) same ∙ sym count

-- weeks from Monday and from Sunday on
pub ruleset weeks_counted = (mondays_counted, sundays_counted)
