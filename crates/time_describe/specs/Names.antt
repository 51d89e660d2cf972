-- The names that stand in brackets: components, and what modifiers choose of them.
use Rattle.std.specs.Prelude.{List, Option, Some, None, Result, Ok, Err, true, false, ℕ, codes, if◌then◌else◌}
use Rattle.time_below.specs.declared.format_description.component.Component.{Component}
use Rattle.time_below.specs.declared.format_description.component.Component.TheVariants as component
use Rattle.time_below.specs.declared.format_description.modifier.Padding.{Padding}
use Rattle.time_below.specs.declared.format_description.modifier.Padding.TheVariants as padding
use Rattle.time_below.specs.declared.format_description.modifier.MonthRepr.TheVariants as month
use Rattle.time_below.specs.declared.format_description.modifier.WeekdayRepr.TheVariants as weekday
use Rattle.time_below.specs.declared.format_description.modifier.WeekNumberRepr.TheVariants as week
use Rattle.time_below.specs.declared.format_description.modifier.YearRepr.TheVariants as year
use Rattle.time_below.specs.declared.format_description.modifier.YearRange.TheVariants as range
use Rattle.time_below.specs.declared.format_description.modifier.SubsecondDigits.TheVariants as digits
use Rattle.time_below.specs.declared.format_description.modifier.UnixTimestampPrecision.TheVariants as precision
use Rattle.time_below.specs.declared.format_description.modifier.TrailingInput.TheVariants as trailing
use Rattle.time_below.specs.declared.format_description.modifier.End.{End}
use Rattle.time_below.specs.declared.format_description.modifier.Hour.{Hour}
use Rattle.time_below.specs.declared.format_description.modifier.Ignore.{Ignore}
use Rattle.time_below.specs.declared.format_description.modifier.Month.{Month}
use Rattle.time_below.specs.declared.format_description.modifier.OffsetHour.{OffsetHour}
use Rattle.time_below.specs.declared.format_description.modifier.Period.{Period}
use Rattle.time_below.specs.declared.format_description.modifier.Subsecond.{Subsecond}
use Rattle.time_below.specs.declared.format_description.modifier.UnixTimestamp.{UnixTimestamp}
use Rattle.time_below.specs.declared.format_description.modifier.WeekNumber.{WeekNumber}
use Rattle.time_below.specs.declared.format_description.modifier.Weekday.{Weekday}
use Rattle.time_below.specs.declared.format_description.modifier.Year.{Year}
use Rattle.time_describe.specs.declared.brackets.reason.BracketReason.{BracketReason}
use Rattle.time_describe.specs.declared.brackets.reason.BracketReason.TheVariants.{UnknownModifier, InvalidValue}
use Rattle.time_describe.specs.Values.{is_name, base_named, bool_named, case_named, clock_named, count_named, digits_named, month_repr_named, padding_named, precision_named, sign_named, trailing_input_named, week_number_repr_named, weekday_repr_named, year_range_named, year_repr_named}

-- A component by its name, where nothing more is said. An `ignore` needs a count, and has none yet.
unfoldable pub named : List ℕ → Option Component
named word =
    if is_name word (codes "year") then Some (component.Year (record { padding = padding.Zero; repr = year.Full; range = range.Extended; iso_week_based = false; sign_is_mandatory = false }))
    else (if is_name word (codes "month") then Some (component.Month (record { padding = padding.Zero; repr = month.Numerical; case_sensitive = true }))
    else (if is_name word (codes "day") then Some (component.Day (record { padding = padding.Zero }))
    else (if is_name word (codes "ordinal") then Some (component.Ordinal (record { padding = padding.Zero }))
    else (if is_name word (codes "weekday") then Some (component.Weekday (record { repr = weekday.Long; one_indexed = true; case_sensitive = true }))
    else (if is_name word (codes "week_number") then Some (component.WeekNumber (record { padding = padding.Zero; repr = week.Iso }))
    else (if is_name word (codes "hour") then Some (component.Hour (record { padding = padding.Zero; is_12_hour_clock = false }))
    else (if is_name word (codes "minute") then Some (component.Minute (record { padding = padding.Zero }))
    else (if is_name word (codes "period") then Some (component.Period (record { is_uppercase = true; case_sensitive = true }))
    else (if is_name word (codes "second") then Some (component.Second (record { padding = padding.Zero }))
    else (if is_name word (codes "subsecond") then Some (component.Subsecond (record { digits = digits.OneOrMore }))
    else (if is_name word (codes "offset_hour") then Some (component.OffsetHour (record { padding = padding.Zero; sign_is_mandatory = false }))
    else (if is_name word (codes "offset_minute") then Some (component.OffsetMinute (record { padding = padding.Zero }))
    else (if is_name word (codes "offset_second") then Some (component.OffsetSecond (record { padding = padding.Zero }))
    else (if is_name word (codes "unix_timestamp") then Some (component.UnixTimestamp (record { precision = precision.Second; sign_is_mandatory = false }))
    else (if is_name word (codes "ignore") then Some (component.Ignore (record { count = 0 }))
    else (if is_name word (codes "end") then Some (component.End (record { trailing_input = trailing.Prohibit }))
    else None))))))))))))))))

-- what a modifier chooses by its value, if it has that value
abbrev pub chosen : {A B : Type 0} → (A → B) → Option A → Result B BracketReason
chosen with_it None = Err InvalidValue
chosen with_it (Some value) = Ok (with_it value)

abbrev pub unknown : {B : Type 0} → Result B BracketReason
unknown = Err UnknownModifier

-- ---- one more modifier, by its key and its value; the last one of a key counts

unfoldable pub padding_modified : List ℕ → List ℕ → Result Padding BracketReason
padding_modified key value = if is_name key (codes "padding") then chosen (λ x. x) (padding_named value) else unknown

unfoldable pub year_modified : Year → List ℕ → List ℕ → Result Year BracketReason
year_modified m key value =
    if is_name key (codes "padding") then chosen (λ x. record m { padding = x }) (padding_named value)
    else (if is_name key (codes "repr") then chosen (λ x. record m { repr = x }) (year_repr_named value)
    else (if is_name key (codes "range") then chosen (λ x. record m { range = x }) (year_range_named value)
    else (if is_name key (codes "base") then chosen (λ x. record m { iso_week_based = x }) (base_named value)
    else (if is_name key (codes "sign") then chosen (λ x. record m { sign_is_mandatory = x }) (sign_named value)
    else unknown))))

unfoldable pub month_modified : Month → List ℕ → List ℕ → Result Month BracketReason
month_modified m key value =
    if is_name key (codes "padding") then chosen (λ x. record m { padding = x }) (padding_named value)
    else (if is_name key (codes "repr") then chosen (λ x. record m { repr = x }) (month_repr_named value)
    else (if is_name key (codes "case_sensitive") then chosen (λ x. record m { case_sensitive = x }) (bool_named value)
    else unknown))

unfoldable pub weekday_modified : Weekday → List ℕ → List ℕ → Result Weekday BracketReason
weekday_modified m key value =
    if is_name key (codes "repr") then chosen (λ x. record m { repr = x }) (weekday_repr_named value)
    else (if is_name key (codes "one_indexed") then chosen (λ x. record m { one_indexed = x }) (bool_named value)
    else (if is_name key (codes "case_sensitive") then chosen (λ x. record m { case_sensitive = x }) (bool_named value)
    else unknown))

unfoldable pub week_number_modified : WeekNumber → List ℕ → List ℕ → Result WeekNumber BracketReason
week_number_modified m key value =
    if is_name key (codes "padding") then chosen (λ x. record m { padding = x }) (padding_named value)
    else (if is_name key (codes "repr") then chosen (λ x. record m { repr = x }) (week_number_repr_named value)
    else unknown)

unfoldable pub hour_modified : Hour → List ℕ → List ℕ → Result Hour BracketReason
hour_modified m key value =
    if is_name key (codes "padding") then chosen (λ x. record m { padding = x }) (padding_named value)
    else (if is_name key (codes "repr") then chosen (λ x. record m { is_12_hour_clock = x }) (clock_named value)
    else unknown)

unfoldable pub period_modified : Period → List ℕ → List ℕ → Result Period BracketReason
period_modified m key value =
    if is_name key (codes "case") then chosen (λ x. record m { is_uppercase = x }) (case_named value)
    else (if is_name key (codes "case_sensitive") then chosen (λ x. record m { case_sensitive = x }) (bool_named value)
    else unknown)

unfoldable pub subsecond_modified : Subsecond → List ℕ → List ℕ → Result Subsecond BracketReason
subsecond_modified m key value =
    if is_name key (codes "digits") then chosen (λ x. record m { digits = x }) (digits_named value)
    else unknown

unfoldable pub offset_hour_modified : OffsetHour → List ℕ → List ℕ → Result OffsetHour BracketReason
offset_hour_modified m key value =
    if is_name key (codes "padding") then chosen (λ x. record m { padding = x }) (padding_named value)
    else (if is_name key (codes "sign") then chosen (λ x. record m { sign_is_mandatory = x }) (sign_named value)
    else unknown)

unfoldable pub unix_timestamp_modified : UnixTimestamp → List ℕ → List ℕ → Result UnixTimestamp BracketReason
unix_timestamp_modified m key value =
    if is_name key (codes "precision") then chosen (λ x. record m { precision = x }) (precision_named value)
    else (if is_name key (codes "sign") then chosen (λ x. record m { sign_is_mandatory = x }) (sign_named value)
    else unknown)

unfoldable pub ignore_modified : Ignore → List ℕ → List ℕ → Result Ignore BracketReason
ignore_modified m key value =
    if is_name key (codes "count") then chosen (λ x. record m { count = x }) (count_named value)
    else unknown

unfoldable pub end_modified : End → List ℕ → List ℕ → Result End BracketReason
end_modified m key value =
    if is_name key (codes "trailing_input") then chosen (λ x. record m { trailing_input = x }) (trailing_input_named value)
    else unknown

abbrev pub of : {A : Type 0} → (A → Component) → Result A BracketReason → Result Component BracketReason
of with_it (Ok m) = Ok (with_it m)
of with_it (Err reason) = Err reason

-- a component with one more modifier
unfoldable pub modified : Component → List ℕ → List ℕ → Result Component BracketReason
modified (component.Year m) key value = of (λ x. component.Year x) (year_modified m key value)
modified (component.Month m) key value = of (λ x. component.Month x) (month_modified m key value)
modified (component.Day m) key value = of (λ x. component.Day (record { padding = x })) (padding_modified key value)
modified (component.Ordinal m) key value = of (λ x. component.Ordinal (record { padding = x })) (padding_modified key value)
modified (component.Weekday m) key value = of (λ x. component.Weekday x) (weekday_modified m key value)
modified (component.WeekNumber m) key value = of (λ x. component.WeekNumber x) (week_number_modified m key value)
modified (component.Hour m) key value = of (λ x. component.Hour x) (hour_modified m key value)
modified (component.Minute m) key value = of (λ x. component.Minute (record { padding = x })) (padding_modified key value)
modified (component.Period m) key value = of (λ x. component.Period x) (period_modified m key value)
modified (component.Second m) key value = of (λ x. component.Second (record { padding = x })) (padding_modified key value)
modified (component.Subsecond m) key value = of (λ x. component.Subsecond x) (subsecond_modified m key value)
modified (component.OffsetHour m) key value = of (λ x. component.OffsetHour x) (offset_hour_modified m key value)
modified (component.OffsetMinute m) key value = of (λ x. component.OffsetMinute (record { padding = x })) (padding_modified key value)
modified (component.OffsetSecond m) key value = of (λ x. component.OffsetSecond (record { padding = x })) (padding_modified key value)
modified (component.UnixTimestamp m) key value = of (λ x. component.UnixTimestamp x) (unix_timestamp_modified m key value)
modified (component.Ignore m) key value = of (λ x. component.Ignore x) (ignore_modified m key value)
modified (component.End m) key value = of (λ x. component.End x) (end_modified m key value)
modified c key value = unknown
