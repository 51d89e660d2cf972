-- The parts of a date and of a time of day as most texts have them: with zeros before their numbers, and no sign that is
-- not needed.
use Rattle.std.specs.Prelude.{false}
use Rattle.time_below.specs.declared.format_description.component.Component.{Component}
use Rattle.time_below.specs.declared.format_description.component.Component.TheVariants as component
use Rattle.time_below.specs.declared.format_description.modifier.Padding.TheVariants as padding

abbrev pub year_part : Component
year_part = component.CalendarYearFullExtendedRange (record { padding = padding.Zero; sign_is_mandatory = false })

abbrev pub month_part : Component
month_part = component.MonthNumerical (record { padding = padding.Zero })

abbrev pub day_part : Component
day_part = component.Day (record { padding = padding.Zero })

abbrev pub hour_part : Component
hour_part = component.Hour24 (record { padding = padding.Zero })

abbrev pub minute_part : Component
minute_part = component.Minute (record { padding = padding.Zero })

abbrev pub second_part : Component
second_part = component.Second (record { padding = padding.Zero })
