-- The order of dates and times: by their parts, as by their seconds and nanoseconds.
use Rattle.std.proofs.Common.{◌≡◌, ℕ, suc, ◌+◌, ◌-◌, ◌*◌, ◌<◌, ◌≤◌, ◌⊎◌, Bool, refl, sym, ap, subst, ◌∙◌, arith}
use Rattle.std.proofs.Common.{ℤ, pos, ◌+ℤ◌, ◌<ℤ◌, unsigned_abs}
use Rattle.std.specs.Prelude.{◌↔◌}
use Rattle.std.proofs.lemmas.Int.{ints}
use Rattle.std.proofs.lemmas.Bool.{cases_lt}
use Rattle.std.proofs.lemmas.Bool.Decides.{nat_tests}
use Rattle.std.specs.declared.cmp.Ordering.{Ordering}
use Rattle.std.specs.declared.cmp.Ordering.TheVariants.{Less, Equal, Greater}
use Rattle.std.specs.Ordering.{nat_cmp, ordering_then}
use Rattle.time_below.specs.Calendar.{OrdinalDate, IsDate, month_of, day_of, days_in_month, days_in_year}
use Rattle.time_below.specs.Calendar.{days_of_months, is_leap_year}
use Rattle.time_below.specs.Moment.{DateAndTime, unix_seconds}
use Rattle.time_below.specs.TimeOfDay.{IsTimeOfDay, seconds_from_midnight}
use Rattle.time_below.proofs.CalendarLemmas.{days_of_years, day_number_from_start}
use Rattle.time_below.proofs.MonthLemmas.{months_grow, month_of_date, day_of_date, date_of-month_and_day}
use Rattle.std.proofs.lemmas.Grind.{common_steps}

-- ---- two numbers

-- the order of joins does not matter for three comparisons
pub then_assoc : (o p q : Ordering) → ordering_then (ordering_then o p) q ≡ ordering_then o (ordering_then p q)
then_assoc o p q = grind (arith, common_steps)

-- a comparison that an equal one follows is itself
pub then_equal : (o : Ordering) → ordering_then o Equal ≡ o
then_equal o = grind (arith, common_steps)

-- equal numbers compare as equal
pub cmp_equal : (a b : ℕ) → a ≡ b → nat_cmp a b ≡ Equal
cmp_equal a b h = grind (arith, nat_tests)

-- one of two numbers is less, or they are equal
pub data Trichotomy (a b : ℕ) : Type 0 where
  less : a < b → Trichotomy a b
  equal : a ≡ b → Trichotomy a b
  greater : b < a → Trichotomy a b

-- any two numbers are less, equal or greater
pub trichotomy : (a b : ℕ) → Trichotomy a b
trichotomy a b = grind (arith, cases_lt)

-- the first pair decides, and then the second, as one pair of numbers made of both does
pub record IsJoined (a b p q m n : ℕ) : Type 0 where
  pub first_less : a < b → m < n
  pub first_greater : b < a → n < m
  pub less : a ≡ b → p < q → m < n
  pub greater : a ≡ b → q < p → n < m
  pub equal : a ≡ b → p ≡ q → m ≡ n

-- two pairs compare as the numbers that they join to
pub joined_cmp : (a b p q m n : ℕ) (rest : Ordering) → IsJoined a b p q m n
    → ordering_then (nat_cmp a b) (ordering_then (nat_cmp p q) rest) ≡ ordering_then (nat_cmp m n) rest
joined_cmp a b p q m n rest j = grind (arith, common_steps, trichotomy, cmp_equal, nat_tests)

-- what follows a pair matters where the pair is equal
pub then_where_equal : (a b : ℕ) (x y : Ordering) → (a ≡ b → x ≡ y)
    → ordering_then (nat_cmp a b) x ≡ ordering_then (nat_cmp a b) y
then_where_equal a b x y h = grind (arith, common_steps, trichotomy, nat_tests)

-- ---- days, hours and seconds

-- the days of the months so far are those before this month and its own
months_more : (is_leap : Bool) (m : ℕ) → 1 ≤ m
    → days_of_months is_leap m ≡ days_of_months is_leap (m - 1) + days_in_month is_leap m
unfolding days_of_months
months_more is_leap m h = grind (arith, common_steps)

-- a later month has later days
month_later : (is_leap : Bool) (m n d e : ℕ) → 1 ≤ m → m < n → d ≤ days_in_month is_leap m → 1 ≤ e
    → days_of_months is_leap (m - 1) + d < days_of_months is_leap (n - 1) + e
month_later is_leap m n d e low h within one =
    omega (arith, months_more is_leap m low, months_grow is_leap m (n - 1) (omega arith))

-- equal months and days are equal days of the year
same_months : (is_leap : Bool) (m n d e : ℕ) → m ≡ n → d ≡ e
    → days_of_months is_leap (m - 1) + d ≡ days_of_months is_leap (n - 1) + e
same_months is_leap m n d e p q = rw (p, q) refl

-- days of a year compare as their months and days
ordinal_cmp : (b : Bool) (m n d e : ℕ) (rest : Ordering) → 1 ≤ m → 1 ≤ n → 1 ≤ d → 1 ≤ e
    → d ≤ days_in_month b m → e ≤ days_in_month b n
    → ordering_then (nat_cmp m n) (ordering_then (nat_cmp d e) rest)
    ≡ ordering_then (nat_cmp (days_of_months b (m - 1) + d) (days_of_months b (n - 1) + e)) rest
ordinal_cmp b m n d e rest ml nl dl el dh eh =
    joined_cmp m n d e (days_of_months b (m - 1) + d) (days_of_months b (n - 1) + e) rest (record {
      first_less = λ l. month_later b m n d e ml l dh el;
      first_greater = λ l. month_later b n m e d nl l eh dl;
      less = λ s l. omega (arith, same_months b m n d d s refl);
      greater = λ s l. omega (arith, same_months b m n e e s refl);
      equal = λ s t. same_months b m n d e s t;
    })

-- the days from -999999-01-01 to the first day of a year, and the length of that year
abbrev days_to : ℕ → ℕ
days_to y = days_of_years (y + 999_999)

-- the days to the next year are those to this year and its own
year_length : (y : ℕ) → days_to y + days_in_year (pos y) ≡ days_to (suc y)
year_length y = grind (arith, nat_tests)

-- there are no fewer days to a later year
years_grow : (m n : ℕ) → m ≤ n → days_to m ≤ days_to n
years_grow m n h = omega arith

-- a later year has later days
year_later : (a b o p : ℕ) → a < b → o ≤ days_in_year (pos a) → 1 ≤ p → days_to a + o < days_to b + p
year_later a b o p h within one = omega (arith, year_length a, years_grow (suc a) b h)

-- equal years and days of the year are equal days
same_years : (a b o p : ℕ) → a ≡ b → o ≡ p → days_to a + o ≡ days_to b + p
same_years a b o p e f = rw (e, f) refl

-- days are in the order of their years and their days of the year
day_cmp : (a b o p : ℕ) (rest : Ordering) → 1 ≤ o → 1 ≤ p → o ≤ days_in_year (pos a) → p ≤ days_in_year (pos b)
    → ordering_then (nat_cmp a b) (ordering_then (nat_cmp o p) rest)
    ≡ ordering_then (nat_cmp (days_to a + o) (days_to b + p)) rest
day_cmp a b o p rest ol pl oh ph =
    joined_cmp a b o p (days_to a + o) (days_to b + p) rest (record {
      first_less = λ l. year_later a b o p l oh pl;
      first_greater = λ l. year_later b a p o l ph ol;
      less = λ s l. omega (arith, same_years a b o o s refl);
      greater = λ s l. omega (arith, same_years a b p p s refl);
      equal = λ s t. same_years a b o p s t;
    })

-- seconds of the day are in the order of their hours, minutes and seconds
pub clock_cmp : (h i m n s t : ℕ) (rest : Ordering) → m < 60 → n < 60 → s < 60 → t < 60
    → ordering_then (nat_cmp h i) (ordering_then (nat_cmp m n) (ordering_then (nat_cmp s t) rest))
    ≡ ordering_then (nat_cmp (3600 * h + 60 * m + s) (3600 * i + 60 * n + t)) rest
clock_cmp h i m n s t rest ma na sa ta =
    joined_cmp h i m n (60 * h + m) (60 * i + n) (ordering_then (nat_cmp s t) rest)
    (record {
      first_less = λ l. omega arith;
      first_greater = λ l. omega arith;
      less = λ e l.
          omega arith;
      greater = λ e l. omega arith;
      equal = λ e f. omega arith;
    })
    ∙ joined_cmp (60 * h + m) (60 * i + n) s t (3600 * h + 60 * m + s) (3600 * i + 60 * n + t) rest
    (record {
      first_less = λ l. omega arith;
      first_greater = λ l. omega arith;
      less = λ e l.
          omega arith;
      greater = λ e l. omega arith;
      equal = λ e f. omega arith;
    })

-- seconds are in the order of their days and their seconds of the day
pub total_cmp : (a b s t : ℕ) (rest : Ordering) → s < 86_400 → t < 86_400
    → ordering_then (nat_cmp a b) (ordering_then (nat_cmp s t) rest)
    ≡ ordering_then (nat_cmp (86_400 * a + s) (86_400 * b + t)) rest
total_cmp a b s t rest sa ta =
    joined_cmp a b s t (86_400 * a + s) (86_400 * b + t) rest
    (record {
      first_less = λ l. omega arith;
      first_greater = λ l. omega arith;
      less = λ e l.
          omega arith;
      greater = λ e l. omega arith;
      equal = λ e f. omega arith;
    })

-- ---- dates and times

-- a date and time of the calendar, from the year 0 on
pub record IsFromYearZero (v : DateAndTime) : Type 0 where
  pub date : IsDate v.date
  pub year : v.date.year ≡ pos (unsigned_abs v.date.year)
  pub time : IsTimeOfDay v.time

-- the parts are compared one after the other
unfoldable pub parts_cmp : DateAndTime → DateAndTime → Ordering
parts_cmp v w =
    ordering_then (nat_cmp (unsigned_abs v.date.year) (unsigned_abs w.date.year))
    (ordering_then (nat_cmp (month_of v.date) (month_of w.date))
    (ordering_then (nat_cmp (day_of v.date) (day_of w.date))
    (ordering_then (nat_cmp v.time.hour w.time.hour)
    (ordering_then (nat_cmp v.time.minute w.time.minute)
    (ordering_then (nat_cmp v.time.second w.time.second)
    (ordering_then (nat_cmp v.time.nanosecond w.time.nanosecond) Equal))))))

-- the days and the seconds from -999999-01-01, and a day
abbrev days_at : DateAndTime → ℕ
days_at v = days_to (unsigned_abs v.date.year) + v.date.ordinal

abbrev total_seconds : DateAndTime → ℕ
total_seconds v = 86_400 * days_at v + seconds_from_midnight v.time

-- the day of the year is that of the month and the day
ordinal_is : (v : DateAndTime) → IsFromYearZero v
    → v.date.ordinal ≡ days_of_months (is_leap_year v.date.year) (month_of v.date - 1) + day_of v.date
ordinal_is v h = ap (λ (d : OrdinalDate). d.ordinal) (sym (date_of-month_and_day v.date h.date))

-- the year of the value has its day
within_year : (v : DateAndTime) → IsFromYearZero v → v.date.ordinal ≤ days_in_year (pos (unsigned_abs v.date.year))
within_year v h = let P : ℤ → Type 0 = λ y. v.date.ordinal ≤ days_in_year y in subst P h.year h.date.1.1

-- months and days of one year compare as days of the year
ordinals_cmp : (v w : DateAndTime) → IsFromYearZero v → IsFromYearZero w → (rest : Ordering)
    → unsigned_abs v.date.year ≡ unsigned_abs w.date.year
    → ordering_then (nat_cmp (month_of v.date) (month_of w.date))
    (ordering_then (nat_cmp (day_of v.date) (day_of w.date)) rest)
    ≡ ordering_then (nat_cmp v.date.ordinal w.date.ordinal) rest
ordinals_cmp v w h k rest e = grind (arith, month_of_date, day_of_date, ordinal_cmp, ordinal_is)

-- the parts compare as the seconds, and then the nanoseconds
parts_total : (v w : DateAndTime) → IsFromYearZero v → IsFromYearZero w
    → parts_cmp v w ≡ ordering_then (nat_cmp (total_seconds v) (total_seconds w))
    (ordering_then (nat_cmp v.time.nanosecond w.time.nanosecond) Equal)
unfolding parts_cmp
parts_total v w h k =
    let rest = ordering_then (nat_cmp v.time.nanosecond w.time.nanosecond) Equal in
    let clock = ordering_then (nat_cmp v.time.hour w.time.hour)
    (ordering_then (nat_cmp v.time.minute w.time.minute)
    (ordering_then (nat_cmp v.time.second w.time.second) rest)) in
    then_where_equal (unsigned_abs v.date.year) (unsigned_abs w.date.year) _ _ (ordinals_cmp v w h k clock)
    ∙ day_cmp (unsigned_abs v.date.year)
    (unsigned_abs w.date.year) v.date.ordinal w.date.ordinal clock h.date.1.0 k.date.1.0 (within_year v h)
    (within_year w k)
    ∙ ap (ordering_then (nat_cmp (days_at v) (days_at w)))
    (clock_cmp v.time.hour w.time.hour v.time.minute w.time.minute v.time.second w.time.second rest
    h.time.1 k.time.1 h.time.2 k.time.2)
    ∙ total_cmp (days_at v) (days_at w) (seconds_from_midnight v.time)
    (seconds_from_midnight w.time) rest (omega (arith, h.time.0, h.time.1, h.time.2))
    (omega (arith, k.time.0, k.time.1, k.time.2))

-- a pair of numbers is less in its first number, or in its second where the first are equal
abbrev pub IsPairLess : ℕ → ℕ → ℕ → ℕ → Type 0
IsPairLess a b m n = (a < b) ⊎ ((a ≡ b) × (m < n))

-- what is not less in the first number, nor in the second where the first are equal, is not less
not_pair_less : (a b m n : ℕ) → b ≤ a → (a ≡ b → n ≤ m) → IsPairLess a b m n → ⊥
not_pair_less a b m n first second h = omega arith

-- greater is not less
greater_not : Greater ≡ Less → ⊥
greater_not e = cc

-- equal is not less
equal_not : Equal ≡ Less → ⊥
equal_not e = cc

-- two numbers compared, and then two others
abbrev pub pair_cmp : ℕ → ℕ → ℕ → ℕ → Ordering
pair_cmp a b m n = ordering_then (nat_cmp a b) (ordering_then (nat_cmp m n) Equal)

-- two pairs of numbers compare as less exactly if the first pair is less
pub pair_less : (a b m n : ℕ) → pair_cmp a b m n ≡ Less ↔ IsPairLess a b m n
pair_less a b m n =
    grind (arith, common_steps, trichotomy, greater_not, not_pair_less, cmp_equal, equal_not, nat_tests)

-- the seconds of a moment, counted from -999999-01-01
seconds_from_start : (v : DateAndTime) → IsFromYearZero v
    → unix_seconds v +ℤ pos (86_400 * 365_961_663) ≡ pos (total_seconds v)
seconds_from_start v h =
    let start = day_number_from_start v.date (unsigned_abs v.date.year + 999_999)
    (omega (arith, ints, h.year)) h.date.1.0 in
    omega (arith, ints, start)

-- moments keep their order when they are counted from another start
pub moment_order : (m n : ℕ) (y z : ℤ) (a b c : ℕ) → y +ℤ pos c ≡ pos a → z +ℤ pos c ≡ pos b
    → IsPairLess a b m n ↔ ((y <ℤ z) ⊎ ((y ≡ z) × (m < n)))
moment_order m n y z a b c e f = grind (arith, ints)

-- dates and times are in the order of their seconds, and then of their nanoseconds
pub date_and_time_order : (v w : DateAndTime) → IsFromYearZero v → IsFromYearZero w
    → parts_cmp v w ≡ Less
    ↔ ((unix_seconds v <ℤ unix_seconds w)
    ⊎ ((unix_seconds v ≡ unix_seconds w) × (v.time.nanosecond < w.time.nanosecond)))
date_and_time_order v w h k =
    let e = parts_total v w h k in
    let p = pair_less (total_seconds v) (total_seconds w) v.time.nanosecond w.time.nanosecond in
    let m = moment_order v.time.nanosecond w.time.nanosecond (unix_seconds v) (unix_seconds w)
    (total_seconds v) (total_seconds w) (86_400 * 365_961_663) (seconds_from_start v h) (seconds_from_start w k) in
    (λ b. m.0 (p.0 (sym e ∙ b)), λ b. e ∙ p.1 (m.1 b))
