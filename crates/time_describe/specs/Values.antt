-- The values that modifiers of a component have, by name, in capitals or small letters.
use Rattle.std.specs.Prelude.{ℕ, ◌+◌, ◌*◌, ◌-◌, List, [], ◌∷◌, Option, Some, None, Bool, true, false, ◌&&◌, ◌==◌, nat_lt, codes, if◌then◌else◌}
use Rattle.std.specs.Char.{is_ascii_digit}
use Rattle.std.specs.Str.{str_eq_ignore_ascii_case}
use Rattle.time_below.specs.declared.format_description.modifier.Padding.{Padding}
use Rattle.time_below.specs.declared.format_description.modifier.Padding.TheVariants as padding
use Rattle.time_below.specs.declared.format_description.modifier.MonthRepr.{MonthRepr}
use Rattle.time_below.specs.declared.format_description.modifier.MonthRepr.TheVariants as month
use Rattle.time_below.specs.declared.format_description.modifier.WeekdayRepr.{WeekdayRepr}
use Rattle.time_below.specs.declared.format_description.modifier.WeekdayRepr.TheVariants as weekday
use Rattle.time_below.specs.declared.format_description.modifier.WeekNumberRepr.{WeekNumberRepr}
use Rattle.time_below.specs.declared.format_description.modifier.WeekNumberRepr.TheVariants as week
use Rattle.time_below.specs.declared.format_description.modifier.YearRepr.{YearRepr}
use Rattle.time_below.specs.declared.format_description.modifier.YearRepr.TheVariants as year
use Rattle.time_below.specs.declared.format_description.modifier.YearRange.{YearRange}
use Rattle.time_below.specs.declared.format_description.modifier.YearRange.TheVariants as range
use Rattle.time_below.specs.declared.format_description.modifier.SubsecondDigits.{SubsecondDigits}
use Rattle.time_below.specs.declared.format_description.modifier.SubsecondDigits.TheVariants as digits
use Rattle.time_below.specs.declared.format_description.modifier.UnixTimestampPrecision.{UnixTimestampPrecision}
use Rattle.time_below.specs.declared.format_description.modifier.UnixTimestampPrecision.TheVariants as precision
use Rattle.time_below.specs.declared.format_description.modifier.TrailingInput.{TrailingInput}
use Rattle.time_below.specs.declared.format_description.modifier.TrailingInput.TheVariants as trailing

-- a word is a name in capitals or small letters
abbrev pub is_name : List ℕ → List ℕ → Bool
is_name word name = str_eq_ignore_ascii_case word name

unfoldable pub padding_named : List ℕ → Option Padding
padding_named word =
    if is_name word (codes "zero") then Some padding.Zero
    else (if is_name word (codes "space") then Some padding.Space
    else (if is_name word (codes "none") then Some padding.None
    else None))

unfoldable pub month_repr_named : List ℕ → Option MonthRepr
month_repr_named word =
    if is_name word (codes "numerical") then Some month.Numerical
    else (if is_name word (codes "long") then Some month.Long
    else (if is_name word (codes "short") then Some month.Short
    else None))

unfoldable pub weekday_repr_named : List ℕ → Option WeekdayRepr
weekday_repr_named word =
    if is_name word (codes "short") then Some weekday.Short
    else (if is_name word (codes "long") then Some weekday.Long
    else (if is_name word (codes "sunday") then Some weekday.Sunday
    else (if is_name word (codes "monday") then Some weekday.Monday
    else None)))

unfoldable pub week_number_repr_named : List ℕ → Option WeekNumberRepr
week_number_repr_named word =
    if is_name word (codes "iso") then Some week.Iso
    else (if is_name word (codes "sunday") then Some week.Sunday
    else (if is_name word (codes "monday") then Some week.Monday
    else None))

unfoldable pub year_repr_named : List ℕ → Option YearRepr
year_repr_named word =
    if is_name word (codes "full") then Some year.Full
    else (if is_name word (codes "century") then Some year.Century
    else (if is_name word (codes "last_two") then Some year.LastTwo
    else None))

unfoldable pub year_range_named : List ℕ → Option YearRange
year_range_named word =
    if is_name word (codes "standard") then Some range.Standard
    else (if is_name word (codes "extended") then Some range.Extended
    else None)

unfoldable pub precision_named : List ℕ → Option UnixTimestampPrecision
precision_named word =
    if is_name word (codes "second") then Some precision.Second
    else (if is_name word (codes "millisecond") then Some precision.Millisecond
    else None)

unfoldable pub digits_named : List ℕ → Option SubsecondDigits
digits_named word =
    if is_name word (codes "1") then Some digits.One
    else (if is_name word (codes "2") then Some digits.Two
    else (if is_name word (codes "3") then Some digits.Three
    else (if is_name word (codes "4") then Some digits.Four
    else (if is_name word (codes "5") then Some digits.Five
    else (if is_name word (codes "6") then Some digits.Six
    else (if is_name word (codes "7") then Some digits.Seven
    else (if is_name word (codes "8") then Some digits.Eight
    else (if is_name word (codes "9") then Some digits.Nine
    else (if is_name word (codes "1+") then Some digits.OneOrMore
    else None)))))))))

unfoldable pub bool_named : List ℕ → Option Bool
bool_named word =
    if is_name word (codes "false") then Some false
    else (if is_name word (codes "true") then Some true
    else None)

unfoldable pub clock_named : List ℕ → Option Bool
clock_named word =
    if is_name word (codes "12") then Some true
    else (if is_name word (codes "24") then Some false
    else None)

unfoldable pub case_named : List ℕ → Option Bool
case_named word =
    if is_name word (codes "lower") then Some false
    else (if is_name word (codes "upper") then Some true
    else None)

unfoldable pub sign_named : List ℕ → Option Bool
sign_named word =
    if is_name word (codes "automatic") then Some false
    else (if is_name word (codes "mandatory") then Some true
    else None)

unfoldable pub base_named : List ℕ → Option Bool
base_named word =
    if is_name word (codes "calendar") then Some false
    else (if is_name word (codes "iso_week") then Some true
    else None)

unfoldable pub trailing_input_named : List ℕ → Option TrailingInput
trailing_input_named word =
    if is_name word (codes "prohibit") then Some trailing.Prohibit
    else (if is_name word (codes "discard") then Some trailing.Discard
    else None)

-- a number with one more decimal digit, below 2 ^ 16
abbrev pub with_digit : ℕ → ℕ → Option ℕ
with_digit n d = if is_ascii_digit d && nat_lt (n * 10 + (d - 48)) 65536 then Some (n * 10 + (d - 48)) else None

-- the number that decimal digits write, behind those of another one
abbrev pub then_digits : Option ℕ → (ℕ → Option ℕ) → Option ℕ
then_digits None f = None
then_digits (Some n) f = f n

abbrev pub whole_number : ℕ → List ℕ → Option ℕ
whole_number n [] = Some n
whole_number n (d ∷ ds) = then_digits (with_digit n d) (λ m. whole_number m ds)

-- how many bytes a parser passes over: 1 to 65,535
abbrev pub some_bytes : Option ℕ → Option ℕ
some_bytes None = None
some_bytes (Some n) = if n == 0 then None else Some n

abbrev pub count_named : List ℕ → Option ℕ
count_named word = some_bytes (whole_number 0 word)
