-- The text of ISO 8601 by the usual configurations, of a value of which nothing is refused.
use Rattle.std.specs.Prelude.{ℕ, ◌++◌, Bool, true, false, List, codes, unsigned_abs, Option, Some, None}
use Rattle.time_digits.specs.Digits.{zero_padded}
use Rattle.time_known.specs.Config.{Choices, default_choices, separator, DateKind, DecimalSign, FormattedComponents}
use Rattle.time_known.specs.Config.{OffsetPrecision, TimePrecision}
use Rattle.time_known.specs.Iso8601.{decimal_part, text_after_year, year_of_kind}
use Rattle.time_known.specs.Values.{Offset, TimeOfDay, DateFacts}
use Rattle.time_known.specs.WellKnown.{clock_text, offset_text}
use Rattle.time_known.specs.declared.iso8601.config.DateKind.TheVariants as kind
use Rattle.time_known.specs.declared.iso8601.config.FormattedComponents.TheVariants as components
use Rattle.time_known.specs.declared.iso8601.config.OffsetPrecision.TheVariants as offset_precision
use Rattle.time_known.specs.declared.iso8601.config.TimePrecision.TheVariants as precision
use Rattle.time_known.specs.declared.iso8601.config.Usual.{Usual}

-- the month and the day after four digits of the year, the time to the second or to decimals of it, and the offset to
-- the minute
abbrev pub usual_choices : Bool → Option ℕ → DecimalSign → Choices
usual_choices has_separators digits sign = record default_choices {
  use_separators = has_separators;
  time_precision = precision.Second digits;
  decimal_sign = sign;
}

-- the same as they were chosen, with separators
abbrev pub choices_of : Usual → Choices
choices_of u = usual_choices true u.decimal_digits u.decimal_sign

-- what is left to choose, by the parts, whether there are separators, whether the year has six digits, the kind of date,
-- the two precisions and the decimal sign
abbrev pub usual_by : FormattedComponents → Bool → Bool → DateKind → TimePrecision → OffsetPrecision → DecimalSign → Option Usual
usual_by components.DateTimeOffset true false kind.Calendar (precision.Second digits) offset_precision.Minute sign =
    Some (record { decimal_digits = digits; decimal_sign = sign })
usual_by _ _ _ _ _ _ _ = None

abbrev pub usual_of : Choices → Option Usual
usual_of c =
    usual_by c.formatted_components c.use_separators c.year_is_six_digits c.date_kind c.time_precision c.offset_precision c.decimal_sign

-- the time of such a text
abbrev pub usual_time_text : List ℕ → DecimalSign → Option ℕ → TimeOfDay → List ℕ
usual_time_text separator sign digits t =
    codes "T" ++ (clock_text separator t ++ decimal_part sign digits t.nanosecond 1_000_000_000)

-- the date after four digits of its year, the time and the offset
abbrev pub usual_text : Choices → Option ℕ → DateFacts → TimeOfDay → Offset → List ℕ
usual_text c digits d t o =
    (zero_padded 4 (unsigned_abs (year_of_kind c.date_kind d)) ++ text_after_year c.date_kind c d)
    ++ usual_time_text (separator c (codes ":")) c.decimal_sign digits t
    ++ offset_text (separator c (codes ":")) o
