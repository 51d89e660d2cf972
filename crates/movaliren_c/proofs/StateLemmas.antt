-- What is known of the date of a moment's parts.
use Rattle.std.proofs.Common.{◌≡◌, ◌≤◌, ◌&&◌, ℕ, ℤ, Bool, true, Result, Ok, subst, arith}
use Rattle.std.specs.Prelude.{nat_le, unsigned_abs}
use Rattle.std.proofs.lemmas.Bool.{and_parts}
use Rattle.std.proofs.lemmas.Bool.Decides.{nat_tests}
use Rattle.std.proofs.lemmas.Grind.{common_steps}
use Rattle.movaliren_c.proofs.MeaningLemmas.{same_value, test_that_passed, value_of_given}
use Rattle.movaliren_c.specs.Value.{checked, date_value, moment_value, with_value, time_value, offset_value}
use Rattle.movaliren_c.specs.declared.answers.reason.Reason.{Reason}
use Rattle.movaliren_c.specs.declared.answers.reason.Reason.TheVariants as reason
use Rattle.movaliren_c.specs.declared.values.moment.Moment.{Moment}
use Rattle.time_below.specs.Calendar.{OrdinalDate, date_of, day_of, days_in_month, is_leap_year, month_of}
use Rattle.time_below.specs.Moment.{OffsetDateAndTime}
use Rattle.time_below.specs.TimeOfDay.{TimeOfDay}
use Rattle.time_below.proofs.MonthLemmas.{month_of-date_of, day_of-date_of}

-- a date of this month and this day of the month, which are in their ranges
pub record HasMonthAndDay (m d : ℕ) (date : OrdinalDate) : Type 0 where
  pub first_month : 1 ≤ m
  pub last_month : m ≤ 12
  pub first_day : 1 ≤ d
  pub last_day : d ≤ 31
  pub month : month_of date ≡ m
  pub day : day_of date ≡ d

-- a number that passed the tests of both bounds
in_range : (first last n : ℕ) → (nat_le first n && nat_le n last) ≡ true → (first ≤ n) × (n ≤ last)
in_range first last n h = grind (arith, common_steps, and_parts, nat_tests)

-- no month has more than 31 days
within_month : (is_leap : Bool) (m : ℕ) → days_in_month is_leap m ≤ 31
within_month is_leap m = grind (arith, common_steps)

-- the month and the day of the date of a year, a month and a day
pub date_parts : (y : ℤ) (m d : ℕ) (date : OrdinalDate) → date_value y m d ≡ Ok date → HasMonthAndDay m d date
unfolding date_value
date_parts y m d date h =
    let last = days_in_month (is_leap_year y) m in
    let there : Result OrdinalDate Reason = Ok (date_of y m d) in
    let of_month = checked (nat_le 1 d && nat_le d last) reason.Day there in
    let of_year = checked (nat_le 1 m && nat_le m 12) reason.Month of_month in
    let year = test_that_passed (nat_le (unsigned_abs y) 999_999) reason.Year of_year date h in
    let month = test_that_passed (nat_le 1 m && nat_le m 12) reason.Month of_month date year.1 in
    let day = test_that_passed (nat_le 1 d && nat_le d last) reason.Day there date month.1 in
    let ms = in_range 1 12 m month.0 in
    let ds = in_range 1 last d day.0 in
    let given = same_value (date_of y m d) date day.1 in
    record {
      first_month = ms.0;
      last_month = ms.1;
      first_day = ds.0;
      last_day = omega (arith, ds.1, within_month (is_leap_year y) m);
      month = rw (← given) (month_of-date_of y m d ms.0 ms.1 ds.0 ds.1);
      day = rw (← given) (day_of-date_of y m d ms.0 ms.1 ds.0 ds.1);
    }

-- and of the date of a moment
pub moment_parts : (m : Moment) (value : OffsetDateAndTime) → moment_value m ≡ Ok value
    → HasMonthAndDay m.month m.day value.date
unfolding moment_value
moment_parts m value h =
    let at : OrdinalDate → TimeOfDay → Result OffsetDateAndTime Reason = λ date time. with_value (offset_value m) (λ offset.
    Ok (record { date = date; time = time; offset = offset })) in
    let date = value_of_given (date_value m.year m.month m.day) (λ date. with_value (time_value m) (at date)) value h in
    let time = value_of_given (time_value m) (at date.0) value date.2 in
    let offset = value_of_given (offset_value m) (λ offset. Ok (record { date = date.0; time = time.0; offset = offset })) value time.2 in
    let given : record { date = date.0; time = time.0; offset = offset.0 } ≡ value = same_value _ value offset.2 in
    subst (λ (v : OffsetDateAndTime). HasMonthAndDay m.month m.day v.date) given (date_parts m.year m.month m.day date.0 date.1)
