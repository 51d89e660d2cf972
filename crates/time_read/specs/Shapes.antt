-- The parts of texts in the order in which they are read.
use Rattle.std.specs.Prelude.{min, ◌≡◌, ◌↔◌, ◌<◌, ◌≤◌, length, take, drop, ℕ, ◌+◌, ◌-◌, ◌*◌, ◌/◌, List, [], ◌∷◌, ◌++◌, codes, pos, Bool, false, ◌&&◌, ◌==◌, if◌then◌else◌}
use Rattle.std.specs.Int.{IsInRange}
use Rattle.std.specs.Str.Parse.{AllDigits}
use Rattle.time_below.specs.Calendar.{IsDayOfMonth, date_of, days_in_month, is_leap_year}
use Rattle.time_known.specs.Parts.{ClockTime}
use Rattle.time_known.specs.Rules.{Rule, Digits, Literal, ◌▹◌}
use Rattle.time_known.specs.Values.{OrdinalDate}
use Rattle.time_read.specs.Fault.{Allows, Begins, BeginsOffset, SpellsSome}
use Rattle.time_read.specs.Profiles.{Secfrac, Tail}
use Rattle.time_read.specs.declared.days.Day.{Day}
use Rattle.time_read.specs.declared.fault.Expected.{Expected}
use Rattle.time_read.specs.declared.fault.Expected.TheVariants as expected
use Rattle.time_read.specs.declared.fault.Unexpected.{Unexpected}
use Rattle.time_read.specs.declared.fault.Profile.{Profile}
use Rattle.time_read.specs.declared.fault.Profile.TheVariants as profile

-- a part, and then one that may depend on it
pub record Seq {A B : Type 0} (P : A → Rule) (Q : A → B → Rule) (p : A × B) (text : List ℕ) : Type 0 where
  pub front : List ℕ
  pub rest : List ℕ
  pub whole : text ≡ front ++ rest
  pub first : P p.0 front
  pub second : Q p.0 p.1 rest

-- one byte, of which nothing is kept
abbrev pub TheByte : ℕ → Unit {0} → Rule
TheByte b u = Literal (b ∷ [])

-- a digit from the first to the last
abbrev pub OneDigit : ℕ → ℕ → ℕ → Rule
OneDigit first last n text = Literal ((48 + n) ∷ []) text × IsInRange first last n

-- two digits of a number from the least to the greatest
abbrev pub Two : ℕ → ℕ → ℕ → Rule
Two least greatest n text = Digits 2 n text × IsInRange least greatest n

-- the same by its tens and its units
abbrev pub first_unit : ℕ → ℕ → ℕ
first_unit least tens = least - 10 * tens

abbrev pub last_unit : ℕ → ℕ → ℕ
last_unit greatest tens = min 9 (greatest - 10 * tens)

abbrev pub TensAndUnits : ℕ → ℕ → ℕ × ℕ → Rule
TensAndUnits least greatest =
    Seq (OneDigit (least / 10) (greatest / 10)) (λ tens. OneDigit (first_unit least tens) (last_unit greatest tens))

-- a number of two digits after a byte
abbrev pub TwoAfter : ℕ → ℕ → ℕ → ℕ → Rule
TwoAfter before least greatest n = Literal (before ∷ []) ▹ Two least greatest n

-- how many days the month of a year has
abbrev pub month_days : ℕ → ℕ → ℕ
month_days year month = days_in_month (is_leap_year (pos year)) month

-- a month and a day of a year, each after a hyphen
abbrev pub MonthAndDay : ℕ → ℕ × ℕ → Rule
MonthAndDay year = Seq (TwoAfter 45 1 12) (λ month. TwoAfter 45 1 (month_days year month))

-- a date by its parts
abbrev pub DateParts : ℕ × (ℕ × ℕ) → Rule
DateParts = Seq (Digits 4) MonthAndDay

-- the date of a day
abbrev pub date_of_day : Day → OrdinalDate
date_of_day d = date_of (pos d.year) d.month d.day

-- a day that the calendar has, of the years 0 to 9,999
pub record IsDay (d : Day) : Type 0 where
  pub year : d.year < 10_000
  pub month : IsInRange 1 12 d.month
  pub day : IsDayOfMonth (pos d.year) d.month d.day

-- an hour, a minute and a second by their numbers
abbrev pub ClockParts : ℕ × (ℕ × ℕ) → Rule
ClockParts = Seq (Two 0 23) (λ _. Seq (TwoAfter 58 0 59) (λ _. TwoAfter 58 0 59))

-- the hour, the minute and the second
pub record Clock : Type 0 where
  pub hour : ℕ
  pub minute : ℕ
  pub second : ℕ

-- these, with colons between them
abbrev pub OfClock : Clock → Rule
OfClock c = ClockTime (codes ":") (record { hour = c.hour; minute = c.minute; second = c.second; nanosecond = 0 })

-- whether an offset with this sign may not be zero: `-00:00` is none but where the profile is lenient
abbrev pub is_some : Profile → Bool → Bool
is_some profile.Strict is_negative = is_negative
is_some profile.Lenient is_negative = false

-- the least minute of an offset that may not be zero, or may
abbrev pub least_minute : Bool → ℕ → ℕ
least_minute some hour = if some && (hour == 0) then 1 else 0

-- the hours and the minutes of such an offset
abbrev pub HoursAndMinutes : Bool → ℕ × ℕ → Rule
HoursAndMinutes some = Seq (Two 0 23) (λ hour. TwoAfter 58 (least_minute some hour) 59)

-- the first byte of an offset that is not `Z`
abbrev pub sign_byte : Bool → ℕ
sign_byte is_negative = if is_negative then 45 else 43

-- a text begins with this many digits, at most nine, and no other digit follows fewer than nine
pub record FirstDigits (text : List ℕ) (count : ℕ) : Type 0 where
  pub most : count ≤ 9
  pub within : count ≤ length text
  pub digits : AllDigits 10 (take count text)
  pub end : count < 9 → (b : ℕ) (after : List ℕ) → drop count text ≡ b ∷ after → ¬ IsInRange 48 57 b

-- A fraction, if any, was read. The next byte of a text is expected, and if it is there it begins an offset.
pub record AtFraction (p : Profile) (text : List ℕ) (nanosecond : ℕ) (rest : List ℕ) (e : Expected) : Type 0 where
  pub front : List ℕ
  pub whole : text ≡ front ++ rest
  pub is : Secfrac p nanosecond front
  pub opens : (b : ℕ) → Begins (SpellsSome (Tail p)) (front ++ b ∷ []) ↔ Allows e b
  pub next : (b : ℕ) (after : List ℕ) → rest ≡ b ∷ after → Allows e b → BeginsOffset p b

-- digits to a byte that is none were skipped, or none at all by the strict profile
pub record Skipped (p : Profile) (text rest : List ℕ) : Type 0 where
  pub more : List ℕ
  pub whole : text ≡ more ++ rest
  pub digits : AllDigits 10 more
  pub strict : p ≡ profile.Strict → more ≡ []
  pub lenient : p ≡ profile.Lenient → (b : ℕ) (after : List ℕ) → rest ≡ b ∷ after → ¬ IsInRange 48 57 b

-- what may follow this many digits of a fraction
abbrev pub next_after : Profile → ℕ → Expected
next_after profile.Strict count =
    if count == 9 then expected.Offset profile.Strict else expected.DigitOrOffset profile.Strict
next_after profile.Lenient count = expected.DigitOrOffset profile.Lenient

-- what may follow a fraction of so many digits, or no fraction, which has none
abbrev pub after_fraction : Profile → ℕ → Expected
after_fraction p count = if count == 0 then expected.PointOrOffset p else next_after p count

-- the text goes on where it should end
pub record IsTrailing (text : List ℕ) (fault : Unexpected) : Type 0 where
  pub expected : fault.expected ≡ expected.End
  pub left : length text ≡ fault.left
  pub some : 0 < length text
