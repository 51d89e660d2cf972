-- Changes of a configuration of ISO 8601, one field at a time.
use Rattle.std.specs.Prelude.{◌≡◌, ◌≢◌, Bool}
use Rattle.time_known.specs.Config.{Choices, DateKind, DecimalSign, FormattedComponents, OffsetPrecision, TimePrecision}

pub data Field : Type 0 where
  the_components : Field
  the_separators : Field
  the_year : Field
  the_date : Field
  the_time : Field
  the_offset : Field
  the_sign : Field

-- what may be chosen for a field
abbrev pub choice_of : Field → Type 0
choice_of the_components = FormattedComponents
choice_of the_separators = Bool
choice_of the_year = Bool
choice_of the_date = DateKind
choice_of the_time = TimePrecision
choice_of the_offset = OffsetPrecision
choice_of the_sign = DecimalSign

-- the choices with one field changed
abbrev pub with_choice : (f : Field) → choice_of f → Choices → Choices
with_choice the_components x c = record c { formatted_components = x }
with_choice the_separators x c = record c { use_separators = x }
with_choice the_year x c = record c { year_is_six_digits = x }
with_choice the_date x c = record c { date_kind = x }
with_choice the_time x c = record c { time_precision = x }
with_choice the_offset x c = record c { offset_precision = x }
with_choice the_sign x c = record c { decimal_sign = x }

-- changes of different fields may be exchanged
abbrev pub ChangesMayBeExchanged : Type 0
ChangesMayBeExchanged =
    (f g : Field) → f ≢ g → (x : choice_of f) (y : choice_of g) (c : Choices)
    → with_choice f x (with_choice g y c) ≡ with_choice g y (with_choice f x c)
