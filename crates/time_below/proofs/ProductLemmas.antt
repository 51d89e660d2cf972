-- The month of a day of the year by one product, by computing each day.
use Rattle.std.proofs.Common.{◌≡◌, ℕ, ◌+◌, ◌-◌, ◌*◌, ◌/◌, ◌%◌, ◌<◌, ◌≤◌, Bool, true, false, if◌then◌else◌, arith}
use Rattle.time_below.specs.Calendar.{days_of_months, last_begun}
use Rattle.time_below.proofs.MonthLemmas.{same_below, day_in_month, month_length}
use Rattle.std.proofs.lemmas.Grind.{common_steps}

-- the month of the days from its first, from 1 January or from 1 March
abbrev pub month_by_product : ℕ → ℕ
month_by_product days = (days * 268 + 8031) / 8192

-- the days before a month, counted the same way
abbrev pub days_by_product : ℕ → ℕ
days_by_product month = (month * 3917 - 3866) / 128

-- the product finds the month from March on
late_month : (is_leap : Bool) (days : ℕ) → days < 307
    → last_begun is_leap 12 (days + (if is_leap then 60 else 59)) ≡ month_by_product days + 2
unfolding last_begun days_of_months
late_month true days h = grind (arith, common_steps, same_below)
late_month false days h = grind (arith, common_steps, same_below)

-- the product finds January and February
pub early_month : (is_leap : Bool) (days : ℕ) → days < (if is_leap then 61 else 60)
    → last_begun is_leap 12 days ≡ month_by_product days
unfolding last_begun days_of_months
early_month is_leap days h = grind (arith, common_steps, same_below)

-- the product finds the days before a month from March on
late_days : (is_leap : Bool) (month : ℕ) → month < 10
    → days_of_months is_leap (month + 2) ≡ (if is_leap then 60 else 59) + days_by_product (month + 1)
unfolding days_of_months
late_days is_leap month h = grind (arith, common_steps, same_below)

-- the product finds the days before January and February
pub early_days : (is_leap : Bool) (month : ℕ) → month < 2
    → days_of_months is_leap month ≡ days_by_product (month + 1)
unfolding days_of_months
early_days is_leap month h = grind (arith, common_steps, same_below)

-- the product finds the month of a day of the year from March on
pub late_begun : (is_leap : Bool) (ordinal : ℕ) → (if is_leap then 60 else 59) < ordinal
    → ordinal ≤ (if is_leap then 366 else 365)
    → last_begun is_leap 12 ordinal ≡ month_by_product (ordinal - (if is_leap then 60 else 59)) + 2
late_begun is_leap ordinal h k = grind (arith, common_steps, late_month)

-- the days before a month from March on, the month counted from January
pub late_passed : (is_leap : Bool) (month : ℕ) → 1 ≤ month → month ≤ 10
    → days_of_months is_leap (month + 2 - 1) ≡ (if is_leap then 60 else 59) + days_by_product month
late_passed is_leap month first last =
    let e : month - 1 + 2 ≡ month + 2 - 1 = omega arith in
    let f : month - 1 + 1 ≡ month = omega arith in
    rw (e, f) at (late_days is_leap (month - 1) (omega arith))

pub ruleset month_facts = (late_begun, early_month, late_passed, early_days, day_in_month, month_length)

-- the first three bits of the product are the rest by seven
pub rest_facts : (n : ℕ) → n < 100_000_000 → n * 613_566_757 % 4_294_967_296 / 536_870_912 ≡ n % 7
rest_facts n h = omega arith
