-- Dates by the number of their day.
use Rattle.std.proofs.Common.{◌≡◌, ℕ, ◌+◌, ◌-◌, ◌<◌, ap, ◌∙◌, arith, ℤ, pos, ◌+ℤ◌, ◌-ℤ◌}
use Rattle.std.proofs.lemmas.Int.{ints}
use Rattle.time_below.specs.Calendar.{OrdinalDate, date_at, days_before, days_in_all, IsDayNumber}
use Rattle.time_below.specs.Calendar.{julian_day_of}
use Rattle.time_below.proofs.YearLemmas.{day_number-date_at}

-- one number from the start is one date
pub date_after : (z : ℤ) (n : ℕ) → pos n ≡ z +ℤ pos days_before → date_at (pos n -ℤ pos days_before) ≡ date_at z
date_after z n e = let same : pos n -ℤ pos days_before ≡ z = omega (arith, ints) in ap date_at same

-- a day before the end has a day number of the calendar
pub is_numbered : (z : ℤ) (n : ℕ) → pos n ≡ z +ℤ pos days_before → n < days_in_all → IsDayNumber z
is_numbered z n e h = (omega (arith, ints), omega (arith, ints))

-- a day number of the calendar is before the end
pub is_before_end : (z : ℤ) (n : ℕ) → pos n ≡ z +ℤ pos days_before → IsDayNumber z → n < days_in_all
is_before_end z n e h = omega (arith, ints)

-- a day after another one is before the end
pub later_before_end : (z : ℤ) (n k : ℕ) → pos n ≡ z +ℤ pos days_before → IsDayNumber (z +ℤ pos k) → n + k < days_in_all
later_before_end z n k e h = omega (arith, ints)

-- the date of a day after another one
pub later_date : (z : ℤ) (n k : ℕ) → pos n ≡ z +ℤ pos days_before
    → date_at (pos (n + k) -ℤ pos days_before) ≡ date_at (z +ℤ pos k)
later_date z n k e = date_after (z +ℤ pos k) (n + k) (omega (arith, ints))

-- the date of a day before another one
pub earlier_date : (z : ℤ) (n k : ℕ) → pos n ≡ z +ℤ pos days_before → IsDayNumber (z -ℤ pos k)
    → date_at (pos (n - k) -ℤ pos days_before) ≡ date_at (z -ℤ pos k)
earlier_date z n k e h = date_after (z -ℤ pos k) (n - k) (omega (arith, ints))

-- the date of a Julian day number has that number
pub julian_back : (julian : ℤ) (n : ℕ) (d : OrdinalDate) → pos n ≡ julian +ℤ pos 363_521_074
    → d ≡ date_at (pos n -ℤ pos days_before) → julian_day_of d ≡ julian
julian_back julian n d e made =
    let back = day_number-date_at (pos n -ℤ pos days_before) n (omega (arith, ints)) in
    ap julian_day_of made ∙ ap (λ z. z +ℤ pos 1_721_426) back ∙ omega (arith, ints)
