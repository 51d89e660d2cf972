-- The current component in the place of each deprecated one.
use Rattle.std.specs.Prelude.{Bool, true, false}
use Rattle.time_below.specs.declared.format_description.component.Component.{Component}
use Rattle.time_below.specs.declared.format_description.component.Component.TheVariants as component
use Rattle.time_below.specs.declared.format_description.modifier.Month.{Month}
use Rattle.time_below.specs.declared.format_description.modifier.MonthRepr.{MonthRepr}
use Rattle.time_below.specs.declared.format_description.modifier.MonthRepr.TheVariants as month
use Rattle.time_below.specs.declared.format_description.modifier.Weekday.{Weekday}
use Rattle.time_below.specs.declared.format_description.modifier.WeekdayRepr.{WeekdayRepr}
use Rattle.time_below.specs.declared.format_description.modifier.WeekdayRepr.TheVariants as weekday
use Rattle.time_below.specs.declared.format_description.modifier.WeekNumber.{WeekNumber}
use Rattle.time_below.specs.declared.format_description.modifier.WeekNumberRepr.{WeekNumberRepr}
use Rattle.time_below.specs.declared.format_description.modifier.WeekNumberRepr.TheVariants as week
use Rattle.time_below.specs.declared.format_description.modifier.Hour.{Hour}
use Rattle.time_below.specs.declared.format_description.modifier.UnixTimestamp.{UnixTimestamp}
use Rattle.time_below.specs.declared.format_description.modifier.UnixTimestampPrecision.{UnixTimestampPrecision}
use Rattle.time_below.specs.declared.format_description.modifier.UnixTimestampPrecision.TheVariants as precision
use Rattle.time_below.specs.declared.format_description.modifier.Year.{Year}
use Rattle.time_below.specs.declared.format_description.modifier.YearRepr.{YearRepr}
use Rattle.time_below.specs.declared.format_description.modifier.YearRepr.TheVariants as year
use Rattle.time_below.specs.declared.format_description.modifier.YearRange.{YearRange}
use Rattle.time_below.specs.declared.format_description.modifier.YearRange.TheVariants as range

-- a month by its number or its name
abbrev pub current_month : MonthRepr → Month → Component
current_month month.Numerical m = component.MonthNumerical (record { padding = m.padding })
current_month month.Long m = component.MonthLong (record { case_sensitive = m.case_sensitive })
current_month month.Short m = component.MonthShort (record { case_sensitive = m.case_sensitive })

-- a weekday by its name or a digit
abbrev pub current_weekday : WeekdayRepr → Weekday → Component
current_weekday weekday.Short m = component.WeekdayShort (record { case_sensitive = m.case_sensitive })
current_weekday weekday.Long m = component.WeekdayLong (record { case_sensitive = m.case_sensitive })
current_weekday weekday.Sunday m = component.WeekdaySunday (record { one_indexed = m.one_indexed })
current_weekday weekday.Monday m = component.WeekdayMonday (record { one_indexed = m.one_indexed })

-- a week of the week calendar, or of the year by its Sundays or Mondays
abbrev pub current_week_number : WeekNumberRepr → WeekNumber → Component
current_week_number week.Iso m = component.WeekNumberIso (record { padding = m.padding })
current_week_number week.Sunday m = component.WeekNumberSunday (record { padding = m.padding })
current_week_number week.Monday m = component.WeekNumberMonday (record { padding = m.padding })

-- an hour, of the 12-hour clock or not
abbrev pub current_hour : Bool → Hour → Component
current_hour true m = component.Hour12 (record { padding = m.padding })
current_hour false m = component.Hour24 (record { padding = m.padding })

-- the seconds or milliseconds since 1970
abbrev pub current_unix_timestamp : UnixTimestampPrecision → UnixTimestamp → Component
current_unix_timestamp precision.Second m = component.UnixTimestampSecond
    (record { sign_is_mandatory = m.sign_is_mandatory })
current_unix_timestamp precision.Millisecond m = component.UnixTimestampMillisecond
    (record { sign_is_mandatory = m.sign_is_mandatory })

-- a year, of the week calendar or not: the range is that of a whole year or a century, and not of two digits
abbrev pub current_year : Bool → YearRepr → YearRange → Year → Component
current_year true year.Full range.Extended m = component.IsoYearFullExtendedRange
    (record { padding = m.padding; sign_is_mandatory = m.sign_is_mandatory })
current_year true year.Full range.Standard m = component.IsoYearFullStandardRange
    (record { padding = m.padding; sign_is_mandatory = m.sign_is_mandatory })
current_year true year.Century range.Extended m = component.IsoYearCenturyExtendedRange
    (record { padding = m.padding; sign_is_mandatory = m.sign_is_mandatory })
current_year true year.Century range.Standard m = component.IsoYearCenturyStandardRange
    (record { padding = m.padding; sign_is_mandatory = m.sign_is_mandatory })
current_year true year.LastTwo size m = component.IsoYearLastTwo (record { padding = m.padding })
current_year false year.Full range.Extended m = component.CalendarYearFullExtendedRange
    (record { padding = m.padding; sign_is_mandatory = m.sign_is_mandatory })
current_year false year.Full range.Standard m = component.CalendarYearFullStandardRange
    (record { padding = m.padding; sign_is_mandatory = m.sign_is_mandatory })
current_year false year.Century range.Extended m = component.CalendarYearCenturyExtendedRange
    (record { padding = m.padding; sign_is_mandatory = m.sign_is_mandatory })
current_year false year.Century range.Standard m = component.CalendarYearCenturyStandardRange
    (record { padding = m.padding; sign_is_mandatory = m.sign_is_mandatory })
current_year false year.LastTwo size m = component.CalendarYearLastTwo (record { padding = m.padding })

-- a component that is not deprecated stays as it is
abbrev pub current_component : Component → Component
current_component (component.Month m) = current_month m.repr m
current_component (component.Weekday m) = current_weekday m.repr m
current_component (component.WeekNumber m) = current_week_number m.repr m
current_component (component.Hour m) = current_hour m.is_12_hour_clock m
current_component (component.UnixTimestamp m) = current_unix_timestamp m.precision m
current_component (component.Year m) = current_year m.iso_week_based m.repr m.range m
current_component c = c

-- the six deprecated components are not current
abbrev pub is_current : Component → Bool
is_current (component.Month m) = false
is_current (component.Weekday m) = false
is_current (component.WeekNumber m) = false
is_current (component.Hour m) = false
is_current (component.UnixTimestamp m) = false
is_current (component.Year m) = false
is_current _ = true
