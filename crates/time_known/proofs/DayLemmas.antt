-- The table of days: its rows are those of the days of a leap year, by computing each.
use Rattle.std.proofs.Common.{◌≡◌, ℕ, zero, suc, ◌+◌, ◌-◌, ◌*◌, ◌<◌, Bool, true, false, if◌then◌else◌, List, [], ◌∷◌}
use Rattle.std.proofs.Common.{take, drop, get_or, map, length, refl, sym, ap, ap₂, ◌∙◌, arith, ◌++◌}
use Rattle.std.proofs.Math.Nat.{mul-suc}
use Rattle.std.proofs.lemmas.List.{drop-drop}
use Rattle.std.proofs.lemmas.List.FromFn.{get_or-map-range_with_len}
use Rattle.std.specs.Fmt.{digits}
use Rattle.std.specs.Prelude.{codes}
use Rattle.std.specs.Int.{IsInRange}
use Rattle.std.specs.List.{range_with_len}
use Rattle.time_below.specs.Calendar.{days_of_months, last_begun}
use Rattle.time_below.proofs.MonthLemmas.{same_below}
use Rattle.time_digits.specs.Digits.{is_ascii, padded, zero_padded}
use Rattle.time_fmt.specs.DateText.{month_name, short_name}
use Rattle.time_known.specs.Days.{month_and_day_in, day_of_leap_year}
use Rattle.time_known.specs.declared.days.TheConstants.{DAYS}
use Rattle.std.proofs.lemmas.Grind.{common_steps}

-- what each row of a table says, one row after another
rows : {X : Type 0} → ℕ → (List ℕ → X) → ℕ → List ℕ → List X
rows width row zero table = []
rows width row (suc k) table = row table ∷ rows width row k (drop width table)

row_at : {X : Type 0} (width : ℕ) (row : List ℕ → X) (k n : ℕ) (table : List ℕ) (other : X) → n < k
    → get_or (rows width row k table) n other ≡ row (drop (width * n) table)
unfolding rows
row_at width row zero n table other h = absurd (omega arith)
row_at width row (suc k) zero table other h = let e : width * 0 ≡ 0 = omega arith in rw e refl
row_at width row (suc k) (suc n) table other h =
    let e : width + width * n ≡ width * suc n = omega (arith, mul-suc width n) in
    row_at width row k n (drop width table) other (omega arith)
    ∙ ap row (drop-drop (width * n) width table ∙ ap (λ place. drop place table) e)

-- if the rows are those of the days, the row at each day's place is the day's
row_is : {X : Type 0} (width : ℕ) (row : List ℕ → X) (of_day : ℕ → X) (days : ℕ) (table : List ℕ)
    → rows width row days table ≡ map of_day (range_with_len 1 days)
    → (ordinal : ℕ) → IsInRange 1 days ordinal → row (drop (width * (ordinal - 1)) table) ≡ of_day ordinal
row_is width row of_day days table e ordinal h =
    sym (row_at width row days (ordinal - 1) table (of_day ordinal) (omega arith))
    ∙ ap (λ said. get_or said (ordinal - 1) (of_day ordinal)) e
    ∙ get_or-map-range_with_len of_day 1 days (ordinal - 1) ordinal (of_day ordinal) (omega arith) (omega arith)

-- ---- months and days

-- the digits of the month, those of the day, and the month's name after a space
pub month_digits : (ordinal : ℕ) → IsInRange 1 366 ordinal
    → take 2 (drop (8 * (ordinal - 1)) DAYS.now) ≡ zero_padded 2 (month_and_day_in true ordinal).month
unfolding rows digits padded days_of_months last_begun
month_digits = row_is 8 (take 2) (λ n. zero_padded 2 (month_and_day_in true n).month) 366 DAYS.now refl

pub day_digits : (ordinal : ℕ) → IsInRange 1 366 ordinal
    → take 2 (drop (8 * (ordinal - 1) + 2) DAYS.now) ≡ zero_padded 2 (month_and_day_in true ordinal).day
unfolding rows digits padded days_of_months last_begun
day_digits ordinal h =
    ap (take 2) (sym (drop-drop 2 (8 * (ordinal - 1)) DAYS.now))
    ∙ row_is 8 (λ row. take 2 (drop 2 row)) (λ n. zero_padded 2 (month_and_day_in true n).day) 366 DAYS.now refl ordinal h

pub name_letters : (ordinal : ℕ) → IsInRange 1 366 ordinal
    → take 2 (drop (8 * (ordinal - 1) + 4) DAYS.now) ++ take 2 (drop (8 * (ordinal - 1) + 6) DAYS.now)
    ≡ codes " " ++ short_name (month_name (month_and_day_in true ordinal).month)
unfolding rows days_of_months last_begun
name_letters ordinal h =
    ap₂ (λ a b. take 2 a ++ take 2 b) (sym (drop-drop 4 (8 * (ordinal - 1)) DAYS.now))
    (sym (drop-drop 6 (8 * (ordinal - 1)) DAYS.now))
    ∙ row_is 8 (λ row. take 2 (drop 4 row) ++ take 2 (drop 6 row))
    (λ n. codes " " ++ short_name (month_name (month_and_day_in true n).month)) 366 DAYS.now refl ordinal h

-- the table has 366 rows of eight bytes, all ASCII
pub table_length : length DAYS.now ≡ 2_928
table_length = refl

pub table_ascii : is_ascii DAYS.now ≡ true
table_ascii = refl

-- ---- common years

-- each day of a year has the month and day of its day in a leap year
pub same_month_and_day : (is_leap : Bool) (ordinal : ℕ) → IsInRange 1 (if is_leap then 366 else 365) ordinal
    → month_and_day_in true (day_of_leap_year is_leap ordinal) ≡ month_and_day_in is_leap ordinal
unfolding days_of_months last_begun
same_month_and_day true ordinal h = refl
same_month_and_day false ordinal h = grind (arith, common_steps, same_below)
