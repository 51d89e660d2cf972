-- The request of a line.
use Rattle.std.specs.Prelude.{ℕ, ℤ, Option, Some, None, Result, Ok, Err, List, [], ◌∷◌, codes, bytes_eq, if◌then◌else◌}
use Rattle.time_below.specs.Facts.{facts_of_time, facts_of_offset_date_time}
use Rattle.time_below.specs.TimeOfDay.{TimeOfDay}
use Rattle.time_below.specs.Tree.{Tree, trees, text_literal, of_component, all_of}
use Rattle.time_below.specs.Width.{tree_width}
use Rattle.time_below.specs.declared.format_description.component.Component.TheVariants as component
use Rattle.time_below.specs.declared.format_description.modifier.Padding.TheVariants.{Zero}
use Rattle.time_below.specs.declared.format_description.modifier.SubsecondDigits.TheVariants.{OneOrMore}
use Rattle.time_fmt.specs.Description.{tree_outcome}
use Rattle.time_fmt.specs.Outcome.{Outcome}
use Rattle.time_known.specs.Config.{Choices, default_choices}
use Rattle.time_known.specs.declared.iso8601.config.DecimalSign.TheVariants.{Comma}
use Rattle.time_known.specs.Iso8601.{iso8601_outcome}
use Rattle.time_known.specs.Iso8601Width.{iso8601_width}
use Rattle.time_known.specs.Rfc2822.{rfc2822_outcome, rfc2822_width}
use Rattle.time_known.specs.Rfc3339.{rfc3339_outcome, rfc3339_width}
use Rattle.time_known.specs.Stamps.{stamp_of, stamp_width}
use Rattle.time_show.specs.declared.value.NoValue.{NoValue}
use Rattle.time_show.specs.declared.value.NoValue.TheVariants.{BadLine}
use Rattle.time_show.specs.Fields.{fields_of, numbers_of}
use Rattle.time_show.specs.LineBuffer.{kept_of}
use Rattle.time_show.specs.Value.{time_value, date_time_value, utc_date_time_value}

-- the outcome of a value by a description of this width, or why there is no value
pub data Asked : Type 0 where
  formatted : ℕ → Outcome → Asked
  no_value : NoValue → Asked

-- the value by a description of this width
abbrev pub asked_value : {V : Type 0} → ℕ → (V → Outcome) → Result V NoValue → Asked
asked_value width outcome_of (Ok value) = formatted width (outcome_of value)
asked_value width outcome_of (Err why) = no_value why

-- the hour, the minute and the second in two digits each, and the decimals of the second, at least one
abbrev pub time_tree : Tree
time_tree = all_of (trees (
    of_component (component.Hour24 (record { padding = Zero })) ∷ text_literal (codes ":")
    ∷ of_component (component.Minute (record { padding = Zero })) ∷ text_literal (codes ":")
    ∷ of_component (component.Second (record { padding = Zero })) ∷ text_literal (codes ".")
    ∷ of_component (component.Subsecond (record { digits = OneOrMore })) ∷ []))

-- a time of day by this list
abbrev pub asked_time : Result TimeOfDay NoValue → Asked
asked_time value = asked_value (tree_width time_tree) (λ time. tree_outcome time_tree (facts_of_time time)) value

-- the default of ISO 8601, with a comma before the decimals
abbrev pub comma_choices : Choices
comma_choices = record default_choices { decimal_sign = Comma }

-- the numbers for a text of ISO 8601 by these choices
abbrev pub asked_iso : Choices → Option (List ℤ) → Asked
asked_iso c numbers =
    asked_value (iso8601_width c) (λ value. iso8601_outcome c (facts_of_offset_date_time value)) (date_time_value numbers)

-- the numbers after the name of a command
abbrev pub asked_by : List ℕ → Option (List ℤ) → Asked
asked_by name numbers =
    if bytes_eq name (codes "time") then asked_time (time_value numbers)
    else (if bytes_eq name (codes "rfc3339")
    then asked_value rfc3339_width (λ value. rfc3339_outcome (facts_of_offset_date_time value)) (date_time_value numbers)
    else (if bytes_eq name (codes "rfc2822")
    then asked_value rfc2822_width (λ value. rfc2822_outcome (facts_of_offset_date_time value)) (date_time_value numbers)
    else (if bytes_eq name (codes "iso") then asked_iso default_choices numbers
    else (if bytes_eq name (codes "iso-comma") then asked_iso comma_choices numbers
    else (if bytes_eq name (codes "stamp") then asked_value stamp_width stamp_of (utc_date_time_value numbers)
    else no_value BadLine)))))

-- the request of a line's fields
abbrev pub asked_of_fields : List (List ℕ) → Asked
asked_of_fields [] = no_value BadLine
asked_of_fields (name ∷ fields) = asked_by name (numbers_of fields)

-- the request of what is kept of a line
abbrev pub asked_of_kept : Option (List ℕ) → Asked
asked_of_kept None = no_value BadLine
asked_of_kept (Some line) = asked_of_fields (fields_of line)

-- the request of a line
abbrev pub asked_of : List ℕ → Asked
asked_of line = asked_of_kept (kept_of line)
