-- Descriptions of the texts that `Display` has.
use Rattle.std.specs.Prelude.{◌≡◌, ℕ, List, [], ◌∷◌, ◌++◌, true, false, codes}
use Rattle.time_below.specs.declared.format_description.component.Component.TheVariants as component
use Rattle.time_below.specs.declared.format_description.modifier.Padding.TheVariants as padding
use Rattle.time_below.specs.declared.format_description.modifier.SubsecondDigits.TheVariants as digits
use Rattle.time_below.specs.Facts.{Facts}
use Rattle.time_below.specs.Tree.{Tree, trees, all_of, of_component, byte_literal}
use Rattle.time_fmt.specs.Description.{tree_outcome}
use Rattle.time_fmt.specs.Outcome.{done}

-- `[year]-[month]-[day]`
abbrev pub date_items : List Tree
date_items =
    of_component (component.CalendarYearFullExtendedRange (record { padding = padding.Zero; sign_is_mandatory = false }))
    ∷ byte_literal (codes "-")
    ∷ of_component (component.MonthNumerical (record { padding = padding.Zero }))
    ∷ byte_literal (codes "-")
    ∷ of_component (component.Day (record { padding = padding.Zero }))
    ∷ []

-- `[hour padding:none]:[minute]:[second].[subsecond]`
abbrev pub time_items : List Tree
time_items =
    of_component (component.Hour24 (record { padding = padding.None }))
    ∷ byte_literal (codes ":")
    ∷ of_component (component.Minute (record { padding = padding.Zero }))
    ∷ byte_literal (codes ":")
    ∷ of_component (component.Second (record { padding = padding.Zero }))
    ∷ byte_literal (codes ".")
    ∷ of_component (component.Subsecond (record { digits = digits.OneOrMore }))
    ∷ []

-- `[offset_hour sign:mandatory]:[offset_minute]:[offset_second]`
abbrev pub offset_items : List Tree
offset_items =
    of_component (component.OffsetHour (record { padding = padding.Zero; sign_is_mandatory = true }))
    ∷ byte_literal (codes ":")
    ∷ of_component (component.OffsetMinute (record { padding = padding.Zero }))
    ∷ byte_literal (codes ":")
    ∷ of_component (component.OffsetSecond (record { padding = padding.Zero }))
    ∷ []

-- the date, a space and the time
abbrev pub date_time_items : List Tree
date_time_items = date_items ++ (byte_literal (codes " ") ∷ time_items)

-- the same and ` +00`
abbrev pub utc_items : List Tree
utc_items = date_time_items ++ (byte_literal (codes " +00") ∷ [])

-- the same, a space and the offset
abbrev pub local_items : List Tree
local_items = date_time_items ++ (byte_literal (codes " ") ∷ offset_items)

-- the list of these items gives this text of these components, and no refusal
abbrev pub Spell : List Tree → Facts → List ℕ → Type 0
Spell items f text = tree_outcome (all_of (trees items)) f ≡ done text
