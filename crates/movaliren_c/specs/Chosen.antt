-- The configuration of ISO 8601 that numbers choose.
use Rattle.std.specs.Prelude.{◌≡◌, ◌⊎◌, ℕ, ℤ, pos, ◌≤ℤ◌, true, ◌==◌, [], ◌∷◌, Option, Some, None, Result, Ok}
use Rattle.std.specs.Prelude.{if◌then◌else◌}
use Rattle.movaliren_c.specs.Answer.{gives}
use Rattle.movaliren_c.specs.Value.{flag_at, numbered, with_value}
use Rattle.movaliren_c.specs.declared.formats.iso8601.config.Iso8601Config.{Iso8601Config}
use Rattle.movaliren_c.specs.declared.answers.reason.Reason.{Reason}
use Rattle.movaliren_c.specs.declared.answers.reason.Reason.TheVariants as reason
use Rattle.time_below.specs.Moment.{OffsetDateAndTime}
use Rattle.time_below.specs.Offset.{Offset}
use Rattle.time_fmt.specs.Outcome.{Outcome}
use Rattle.time_known.specs.Config.{Choices}
use Rattle.time_known.specs.Iso8601.{iso8601_of}
use Rattle.time_known.specs.UsualText.{usual_choices}
use Rattle.time_known.specs.declared.iso8601.config.DateKind.{DateKind}
use Rattle.time_known.specs.declared.iso8601.config.DateKind.TheVariants as kind
use Rattle.time_known.specs.declared.iso8601.config.DecimalSign.{DecimalSign}
use Rattle.time_known.specs.declared.iso8601.config.DecimalSign.TheVariants as sign
use Rattle.time_known.specs.declared.iso8601.config.FormattedComponents.{FormattedComponents}
use Rattle.time_known.specs.declared.iso8601.config.FormattedComponents.TheVariants as components
use Rattle.time_known.specs.declared.iso8601.config.OffsetPrecision.{OffsetPrecision}
use Rattle.time_known.specs.declared.iso8601.config.OffsetPrecision.TheVariants as offset_precision
use Rattle.time_known.specs.declared.iso8601.config.TimePrecision.{TimePrecision}
use Rattle.time_known.specs.declared.iso8601.config.TimePrecision.TheVariants as precision
use Rattle.time_known.specs.declared.iso8601.config.Usual.{Usual}

abbrev pub components_at : ℕ → Result FormattedComponents Reason
components_at n =
    numbered 1 (components.Date ∷ components.Time ∷ components.Offset ∷ components.DateTime ∷ components.DateTimeOffset ∷
    components.TimeOffset ∷ []) reason.BadConfig n

abbrev pub date_kind_at : ℕ → Result DateKind Reason
date_kind_at n = numbered 0 (kind.Calendar ∷ kind.Week ∷ kind.Ordinal ∷ []) reason.BadConfig n

-- none, or this many
abbrev pub decimals_at : ℕ → Option ℕ
decimals_at n = if n == 0 then None else Some n

abbrev pub precision_at : ℕ → Option ℕ → Result TimePrecision Reason
precision_at n d =
    numbered 0 (precision.Hour d ∷ precision.Minute d ∷ precision.Second d ∷ []) reason.BadConfig n

abbrev pub offset_precision_at : ℕ → Result OffsetPrecision Reason
offset_precision_at n = numbered 0 (offset_precision.Hour ∷ offset_precision.Minute ∷ []) reason.BadConfig n

abbrev pub sign_at : ℕ → Result DecimalSign Reason
sign_at n = numbered 0 (sign.Point ∷ sign.Comma ∷ []) reason.BadConfig n

abbrev pub choices_at : Iso8601Config → Result Choices Reason
choices_at n =
    with_value (components_at n.parts) (λ components.
    with_value (date_kind_at n.date_kind) (λ date_kind.
    with_value (precision_at n.time_precision (decimals_at n.decimals)) (λ precision.
    with_value (offset_precision_at n.offset_precision) (λ offset_precision.
    with_value (flag_at n.use_separators reason.BadConfig) (λ use_separators.
    with_value (flag_at n.year_is_six_digits reason.BadConfig) (λ is_six_digits.
    with_value (sign_at n.comma) (λ sign.
    Ok (record {
      formatted_components = components;
      use_separators = use_separators;
      year_is_six_digits = is_six_digits;
      date_kind = date_kind;
      time_precision = precision;
      offset_precision = offset_precision;
      decimal_sign = sign;
    }))))))))

-- the usual choices with separators
abbrev pub separated : Usual → Choices
separated usual = usual_choices true usual.decimal_digits usual.decimal_sign

-- a year and an offset have a place in a text: the year has four digits, and the offset has no seconds, and minutes only
-- where they are written
abbrev pub HavePlaces : OffsetPrecision → ℤ → Offset → Type 0
HavePlaces precision year o =
    (pos 0 ≤ℤ year) × (year ≤ℤ pos 9_999) × (o.seconds ≡ pos 0)
    × ((o.minutes ≡ pos 0) ⊎ (precision ≡ offset_precision.Minute))

-- the outcome of a value by a configuration, whose numbers are tested first
unfoldable pub iso8601_by : Iso8601Config → Result OffsetDateAndTime Reason → Result Outcome Reason
iso8601_by numbers value = with_value (choices_at numbers) (λ c. gives value (iso8601_of c))
