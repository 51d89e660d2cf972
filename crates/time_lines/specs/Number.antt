-- The numbers of a line that are times, and the moments that they name.
use Rattle.std.specs.Prelude.{ℕ, ◌+◌, ◌-◌, ◌*◌, ◌/◌, ◌%◌, ◌^◌, ◌≤◌, min, pos, neg_ℤ, ◌-ℤ◌, List, [], ◌∷◌, length, take, drop, get_or}
use Rattle.std.specs.Prelude.{zero, suc, Bool, not, ◌&&◌, ◌||◌, ◌==◌, nat_le, if◌then◌else◌, Option, Some, None, is_some}
use Rattle.std.specs.Char.{is_ascii_digit, is_ascii_alphanumeric}
use Rattle.std.specs.List.{prefix_len}
use Rattle.std.specs.Str.Parse.{digits_value}
use Rattle.time_below.specs.Moment.{Moment, IsMoment}
use Rattle.time_lines.specs.declared.number.Unit.{Unit as UnixUnit}
use Rattle.time_lines.specs.declared.number.Unit.TheVariants.{Seconds, Milliseconds, Microseconds, Nanoseconds}

-- the byte at this place, and 0 behind the line
abbrev pub byte_at : List ℕ → ℕ → ℕ
byte_at line at = get_or line at 0

abbrev pub is_digit_at : List ℕ → ℕ → Bool
is_digit_at line at = is_ascii_digit (byte_at line at)

-- how many digits the text begins with
abbrev pub digit_count : List ℕ → ℕ
digit_count text = prefix_len is_ascii_digit text

-- those digits
abbrev pub digits_of : List ℕ → List ℕ
digits_of text = take (digit_count text) text

-- whether a digit stands before this place, or a point (46) behind a digit: no number begins here
abbrev pub goes_on : List ℕ → ℕ → Bool
goes_on line at =
    (nat_le 1 at && is_digit_at line (at - 1))
    || (nat_le 2 at && ((byte_at line (at - 1) == 46) && is_digit_at line (at - 2)))

-- the unit by the digits before the point, of moments from 1973 to 2286: 9 or 10 are seconds, and three more a unit below
abbrev pub unit_by_digits : ℕ → Option UnixUnit
unit_by_digits count =
    if (count == 9) || (count == 10) then Some Seconds else if (count == 12) || (count == 13) then Some Milliseconds
    else if (count == 15) || (count == 16) then Some Microseconds else if (count == 18) || (count == 19) then Some Nanoseconds
    else None

-- the unit of a number of so many digits: the one that is asked for, and else the one by its digits, if it has one
abbrev pub unit_of : Option UnixUnit → ℕ → Option UnixUnit
unit_of (Some unit) count = Some unit
unit_of None count = unit_by_digits count

-- the same, and seconds where it has none
abbrev pub unit_for : Option UnixUnit → ℕ → UnixUnit
unit_for asked count = elim (unit_of asked count) [
  | Some unit ↦ unit
  | None ↦ Seconds
]

-- whether a number of so many digits is a time: it has as many as are asked for at least, and a unit
abbrev pub is_time : Option UnixUnit → ℕ → ℕ → Bool
is_time asked least count = nat_le least count && is_some (unit_of asked count)

-- whether a number begins here, where one passes
abbrev pub begins : (ℕ → Bool) → List ℕ → ℕ → Bool
begins passes line at = is_digit_at line at && (not (goes_on line at) && passes at)

-- the first place from here on that passes, of so many
abbrev pub first_place : (ℕ → Bool) → ℕ → ℕ → Option ℕ
first_place p zero at = None
first_place p (suc count) at = if p at then Some at else first_place p count (at + 1)

-- where the first such number begins, from this place on
abbrev pub number_start : (ℕ → Bool) → List ℕ → ℕ → Option ℕ
number_start passes line from = first_place (begins passes line) (length line - from) from

-- a number: where it begins with its sign, the digits of its whole part, its decimals, and where it ends
pub record Number : Type 0 where
  pub first : ℕ
  pub is_negative : Bool
  pub whole : List ℕ
  pub decimals : List ℕ
  pub end : ℕ

-- whether a minus sign (45) stands before this place, at the start of the line or behind what is no letter or digit
abbrev pub has_minus : List ℕ → ℕ → Bool
has_minus line at =
    nat_le 1 at
    && ((byte_at line (at - 1) == 45) && ((at == 1) || not (is_ascii_alphanumeric (byte_at line (at - 2)))))

-- the digits behind a point with which the text begins, if it does
abbrev pub decimals_of : List ℕ → List ℕ
decimals_of [] = []
decimals_of (b ∷ text) = if b == 46 then digits_of text else []

-- how many bytes these digits and their point have, which are none where there are no digits
abbrev pub decimals_length : List ℕ → ℕ
decimals_length [] = 0
decimals_length (d ∷ decimals) = 1 + length (d ∷ decimals)

-- the number whose digits begin here
abbrev pub number_at : List ℕ → ℕ → Number
number_at line at =
    let is_negative = has_minus line at in
    let text = drop at line in
    let decimals = decimals_of (drop (digit_count text) text) in
    record {
      first = if is_negative then at - 1 else at;
      is_negative = is_negative;
      whole = digits_of text;
      decimals = decimals;
      end = at + digit_count text + decimals_length decimals;
    }

-- how many decimals of a second a unit has
abbrev pub places_of : UnixUnit → ℕ
places_of Seconds = 0
places_of Milliseconds = 3
places_of Microseconds = 6
places_of Nanoseconds = 9

-- how many decimals of a second a number of the unit has that has so many: those below a nanosecond are left out
abbrev pub decimals_shown : UnixUnit → ℕ → ℕ
decimals_shown unit count = min (count + places_of unit) 9

-- the value of the first of the decimals, as many as this, where missing ones are zeros
abbrev pub decimals_value : ℕ → List ℕ → ℕ
decimals_value count decimals =
    digits_value 10 (take count decimals) * 10 ^ (count - length (take count decimals))

-- the moment as far before 1970
abbrev pub negated : Moment → Moment
negated m =
    if m.nanosecond == 0 then record { seconds = neg_ℤ m.seconds; nanosecond = 0 }
    else record { seconds = neg_ℤ m.seconds -ℤ pos 1; nanosecond = 1_000_000_000 - m.nanosecond }

-- the moment that is so many units after 1970: decimals below a nanosecond are left out
abbrev pub moment_after : UnixUnit → ℕ → List ℕ → Moment
moment_after unit count decimals =
    let places = places_of unit in
    record {
      seconds = pos (count / 10 ^ places);
      nanosecond = count % 10 ^ places * 10 ^ (9 - places) + decimals_value (9 - places) decimals;
    }

-- the moment with a sign
abbrev pub with_sign : Bool → Moment → Moment
with_sign is_negative m = if is_negative then negated m else m

-- the moment that digits and decimals with a sign name, by the unit that is asked for or by how many digits there are
abbrev pub named_moment : Option UnixUnit → Bool → List ℕ → List ℕ → Moment
named_moment asked is_negative digits decimals =
    with_sign is_negative (moment_after (unit_for asked (length digits)) (digits_value 10 digits) decimals)

-- the moment that the number names, before 1970 or after it
abbrev pub moment_of : UnixUnit → Number → Moment
moment_of unit number =
    with_sign number.is_negative (moment_after unit (digits_value 10 number.whole) number.decimals)

-- the number names a moment: its whole part has at most 19 digits, and the year is at most 999,999
abbrev pub HasMoment : UnixUnit → Number → Type 0
HasMoment unit number = (length number.whole ≤ 19) × IsMoment (moment_of unit number)
