-- The texts of numbers and signs, and those of a time of day.
use Rattle.std.specs.Prelude.{ℕ, ◌+◌, ◌%◌, Bool, List, [], codes, decimal, take, if◌then◌else◌}
use Rattle.time_digits.specs.Digits.{fixed, zero_padded, space_padded}
use Rattle.time_digits.specs.Fraction.{trimmed_fraction}
use Rattle.time_below.specs.declared.period.Period.{Period}
use Rattle.time_below.specs.declared.period.Period.TheVariants.{Am, Pm}
use Rattle.time_below.specs.declared.format_description.modifier.Padding.{Padding}
use Rattle.time_below.specs.declared.format_description.modifier.Padding.TheVariants as padding
use Rattle.time_below.specs.declared.format_description.modifier.SubsecondDigits.{SubsecondDigits}
use Rattle.time_below.specs.declared.format_description.modifier.SubsecondDigits.TheVariants as digits
use Rattle.time_below.specs.Width.{subsecond_width}

-- a number in this many places
abbrev pub padded_text : Padding → ℕ → ℕ → List ℕ
padded_text padding.Space places n = space_padded places n
padded_text padding.Zero places n = zero_padded places n
padded_text padding.None places n = decimal n

-- a minus, or a plus where it is wanted
abbrev pub sign_text : Bool → Bool → List ℕ
sign_text is_negative is_wanted = if is_negative then codes "-" else (if is_wanted then codes "+" else [])

-- the hour of the 12-hour clock, 1 to 12
abbrev pub hour_12 : ℕ → ℕ
hour_12 hour = (hour + 11) % 12 + 1

abbrev pub period_text : Period → Bool → List ℕ
period_text Am is_uppercase = if is_uppercase then codes "AM" else codes "am"
period_text Pm is_uppercase = if is_uppercase then codes "PM" else codes "pm"

-- the first decimals of the second, or as many as are needed
abbrev pub subsecond_text : SubsecondDigits → ℕ → List ℕ
subsecond_text digits.OneOrMore nanosecond = trimmed_fraction nanosecond
subsecond_text digits nanosecond = take (subsecond_width digits) (fixed 9 nanosecond)
