-- The kinds of texts that components have.
use Rattle.std.specs.Prelude.{ℕ, ◌/◌, ◌++◌, Bool, ◌||◌, nat_lt, nat_le, List, [], codes, decimal, ℤ, pos, int_lt}
use Rattle.std.specs.Prelude.{unsigned_abs, if◌then◌else◌}
use Rattle.time_below.specs.ComponentRange.{conditional_range}
use Rattle.time_below.specs.declared.period.Period.{Period}
use Rattle.time_below.specs.declared.format_description.modifier.Padding.{Padding}
use Rattle.time_below.specs.declared.format_description.modifier.Padding.TheVariants as padding
use Rattle.time_below.specs.declared.format_description.modifier.SubsecondDigits.{SubsecondDigits}
use Rattle.time_fmt.specs.DateText.{month_name, weekday_name, short_name, indexed}
use Rattle.time_fmt.specs.Outcome.{Outcome, done, refused, out_of_range}
use Rattle.time_fmt.specs.Text.{padded_text, sign_text, period_text, subsecond_text}

-- A number in this many places; one after its sign; one that is refused above a greatest number; the name of a
-- month or a weekday; the first letters of a name; a weekday by one digit; a half of the day; decimals of the
-- second; no text.
pub data Kind : Type 0 where
  number : Padding → ℕ → ℕ → Kind
  signed : Bool → Bool → Padding → ℕ → ℕ → Kind
  limited : ℕ → ℕ → Kind → Kind
  month : ℕ → Kind
  weekday : ℕ → Kind
  short : Kind → Kind
  digit : Bool → ℕ → Kind
  half_day : Period → Bool → Kind
  decimals : SubsecondDigits → ℕ → Kind
  empty : Kind

-- its text
abbrev pub kind_text : Kind → List ℕ
kind_text (number p places n) = padded_text p places n
kind_text (signed is_negative is_wanted p places n) = sign_text is_negative is_wanted ++ padded_text p places n
kind_text (limited greatest n k) = kind_text k
kind_text (month n) = month_name n
kind_text (weekday n) = weekday_name n
kind_text (short k) = short_name (kind_text k)
kind_text (digit one_indexed days) = decimal (indexed one_indexed days)
kind_text (half_day period is_uppercase) = period_text period is_uppercase
kind_text (decimals digits nanosecond) = subsecond_text digits nanosecond
kind_text empty = []

-- the text of a year or a century of at most so much, or the refusal of a greater one
abbrev pub in_standard_range : ℕ → ℕ → List ℕ → Outcome
in_standard_range greatest n text =
    if nat_le n greatest then done text else refused (out_of_range (conditional_range (codes "year")))

-- the text, or the refusal
abbrev pub kind_outcome : Kind → Outcome
kind_outcome (limited greatest n k) = in_standard_range greatest n (kind_text k)
kind_outcome k = done (kind_text k)

-- a year in four places, or all its digits and a sign from 10,000 on
abbrev pub extended_year : Padding → Bool → ℤ → Kind
extended_year p sign_is_mandatory year =
    signed (int_lt year (pos 0)) (sign_is_mandatory || int_lt (pos 9_999) year) p 4 (unsigned_abs year)

-- a year of at most four digits
abbrev pub standard_year : Padding → Bool → ℤ → Kind
standard_year p sign_is_mandatory year =
    limited 9_999 (unsigned_abs year) (signed (int_lt year (pos 0)) sign_is_mandatory p 4 (unsigned_abs year))

-- the century of a year, toward zero
abbrev pub century_of : ℤ → ℕ
century_of year = unsigned_abs year / 100

-- a century in two places, or all its digits and a sign from 100 on; the sign is that of the year
abbrev pub extended_century : Padding → Bool → Bool → ℕ → Kind
extended_century p sign_is_mandatory is_negative century =
    signed is_negative (sign_is_mandatory || nat_lt 99 century) p 2 century

-- a century of at most two digits
abbrev pub standard_century : Padding → Bool → Bool → ℕ → Kind
standard_century p sign_is_mandatory is_negative century =
    limited 99 century (signed is_negative sign_is_mandatory p 2 century)

-- the sign of the whole offset, and the magnitude of its hour
abbrev pub offset_hour : Padding → Bool → Bool → ℤ → Kind
offset_hour p sign_is_mandatory is_negative hour = signed is_negative sign_is_mandatory p 2 (unsigned_abs hour)

-- a signed number by all its digits
abbrev pub timestamp : Bool → ℤ → Kind
timestamp sign_is_mandatory n = signed (int_lt n (pos 0)) sign_is_mandatory padding.None 1 (unsigned_abs n)
