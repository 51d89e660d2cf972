-- The Thursday of each week, and the one date of a day of the week calendar.
use Rattle.std.proofs.Common.{◌≡◌, ℕ, ◌+◌, ◌-◌, ◌/◌, ◌%◌, ◌≤◌, sym, ap, ◌∙◌, arith, ℤ, pos, ◌+ℤ◌, ◌-ℤ◌, unsigned_abs}
use Rattle.std.proofs.Common.{rules}
use Rattle.std.proofs.lemmas.Int.{ints}
use Rattle.std.specs.Int.{IsInRange, int_rem_euclid}
use Rattle.time_below.specs.Calendar.{OrdinalDate, IsDate, IsYear, IsDayNumber, day_number, weekday_of, thursday_of}
use Rattle.time_below.specs.Calendar.{iso_year_of, iso_week_of, days_before, greatest_year}
use Rattle.time_below.proofs.CalendarLemmas.{days_of_years, day_number_from_start, weekday_from_start}
use Rattle.time_below.proofs.YearLemmas.{years_from_start, days_from_start, days_before_end, is_day_number}
use Rattle.time_below.proofs.YearLemmas.{IsDayNumber-day_number, IsDate-date_at, day_number_back, same_day_number}
use Rattle.std.proofs.lemmas.Grind.{common_steps}

-- the day number of the Thursday in the week of a day
abbrev thursday_number : ℤ → ℤ
thursday_number z = z +ℤ pos 3 -ℤ pos (unsigned_abs (int_rem_euclid z (pos 7)))

-- the Thursday of a week, by the days from the start
thursday_shifted : (z : ℤ) (n : ℕ) → z +ℤ pos days_before ≡ pos n
    → thursday_number z +ℤ pos days_before ≡ pos (n - n % 7 + 3)
thursday_shifted z n e = omega (arith, ints, weekday_from_start z n (sym e))

-- the Thursday of the first week and that of the last are in range
thursday_within : (z : ℤ) → IsDayNumber z → IsDayNumber (thursday_number z)
thursday_within z h = grind (arith, days_from_start, is_day_number, thursday_shifted, days_before_end)

-- the Thursday of the week of a date is one of the calendar
pub IsDate-thursday_of : (d : OrdinalDate) → IsDate d → IsDate (thursday_of d)
IsDate-thursday_of d h = search (rules, arith, common_steps, IsDate-date_at, thursday_within, IsDayNumber-day_number)

-- the year of the week calendar is one of the calendar
pub iso_year_of_date : (d : OrdinalDate) → IsDate d → IsYear (iso_year_of d)
iso_year_of_date d h = (IsDate-thursday_of d h).0

-- a day of the year lies in one of 53 weeks
week_of_ordinal : (d : OrdinalDate) → IsDate d → IsInRange 1 53 ((d.ordinal - 1) / 7 + 1)
week_of_ordinal d h = (omega arith, grind arith)

-- the week of the week calendar is 1 to 53
pub iso_week_of_date : (d : OrdinalDate) → IsDate d → IsInRange 1 53 (iso_week_of d)
iso_week_of_date d h = week_of_ordinal (thursday_of d) (IsDate-thursday_of d h)

-- two days with one weekday, whose Thursdays are in one week of one year, are one
same_week : (m n o p a b : ℕ) → m ≡ n → (o - 1) / 7 + 1 ≡ (p - 1) / 7 + 1 → 1 ≤ o → 1 ≤ p
    → a % 7 ≡ b % 7
    → a - a % 7 + 3 ≡ days_of_years m + o - 1
    → b - b % 7 + 3 ≡ days_of_years n + p - 1
    → a ≡ b
same_week m n o p a b year week one two day first second = omega (arith, ap days_of_years year)

-- one count from the start is one day number
one_count_is_one_day_number : (y z : ℤ) (a b : ℕ) → y +ℤ pos days_before ≡ pos a → z +ℤ pos days_before ≡ pos b
    → a ≡ b → y ≡ z
one_count_is_one_day_number y z a b p q e = omega (arith, ints)

-- equal numbers as integers are equal
equal_as_integers : (a b : ℕ) → pos a ≡ pos b → a ≡ b
equal_as_integers a b e = ap unsigned_abs e

-- the Thursday of a day, counted from the start both ways
pub thursday_counted : (d : OrdinalDate) (n m : ℕ) → IsDate d
    → day_number d +ℤ pos days_before ≡ pos n → (thursday_of d).year +ℤ pos greatest_year ≡ pos m
    → n - n % 7 + 3 ≡ days_of_years m + (thursday_of d).ordinal - 1
thursday_counted d n m h e y =
    let back =
    day_number_back (thursday_number (day_number d)) (thursday_within (day_number d) (IsDayNumber-day_number d h)) in
    let there = day_number_from_start (thursday_of d) m y (IsDate-thursday_of d h).1.0 in
    equal_as_integers _ _
    (sym (thursday_shifted (day_number d) n e) ∙ sym (ap (λ z. z +ℤ pos days_before) back) ∙ there)

-- one year, week and weekday of the week calendar is one date
pub same_week_day : (d e : OrdinalDate) → IsDate d → IsDate e → iso_year_of d ≡ iso_year_of e
    → iso_week_of d ≡ iso_week_of e → weekday_of d ≡ weekday_of e → d ≡ e
same_week_day d e h k year week day =
    let a = unsigned_abs (day_number d +ℤ pos days_before) in
    let b = unsigned_abs (day_number e +ℤ pos days_before) in
    let m = unsigned_abs ((thursday_of d).year +ℤ pos greatest_year) in
    let n = unsigned_abs ((thursday_of e).year +ℤ pos greatest_year) in
    let p = days_from_start (day_number d) (IsDayNumber-day_number d h) in
    let q = days_from_start (day_number e) (IsDayNumber-day_number e k) in
    let u = years_from_start (thursday_of d).year (IsDate-thursday_of d h).0 in
    let v = years_from_start (thursday_of e).year (IsDate-thursday_of e k).0 in
    let rests : a % 7 ≡ b % 7 =
    sym (weekday_from_start (day_number d) a (sym p))
    ∙ day
    ∙ weekday_from_start (day_number e) b (sym q) in
    let same : a ≡ b =
    same_week m n (thursday_of d).ordinal (thursday_of e).ordinal a b
    (ap (λ y. unsigned_abs (y +ℤ pos greatest_year)) year) week
    (IsDate-thursday_of d h).1.0
    (IsDate-thursday_of e k).1.0
    rests
    (thursday_counted d a m h p u)
    (thursday_counted e b n k q v) in
    same_day_number d e h k (one_count_is_one_day_number (day_number d) (day_number e) a b p q same)

-- what a date has in the week calendar
pub ruleset weeks_of_dates = (iso_year_of_date, iso_week_of_date)
