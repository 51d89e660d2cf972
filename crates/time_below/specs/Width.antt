-- What is the same for all values: the part that a component is taken from, the most bytes of a text, and whether it is
-- sure to be UTF-8.
use Rattle.std.specs.Prelude.{ℕ, ◌+◌, length, Bool, true, false, ◌&&◌}
use Rattle.time_below.specs.declared.format_description.component.Component.{Component}
use Rattle.time_below.specs.declared.format_description.component.Component.TheVariants as component
use Rattle.time_below.specs.declared.format_description.component.Group.{Group}
use Rattle.time_below.specs.declared.format_description.component.Group.TheVariants as group
use Rattle.time_below.specs.declared.format_description.modifier.MonthRepr.{MonthRepr}
use Rattle.time_below.specs.declared.format_description.modifier.MonthRepr.TheVariants as month
use Rattle.time_below.specs.declared.format_description.modifier.WeekdayRepr.{WeekdayRepr}
use Rattle.time_below.specs.declared.format_description.modifier.WeekdayRepr.TheVariants as weekday
use Rattle.time_below.specs.declared.format_description.modifier.YearRepr.{YearRepr}
use Rattle.time_below.specs.declared.format_description.modifier.YearRepr.TheVariants as year
use Rattle.time_below.specs.declared.format_description.modifier.UnixTimestampPrecision.{UnixTimestampPrecision}
use Rattle.time_below.specs.declared.format_description.modifier.UnixTimestampPrecision.TheVariants as precision
use Rattle.time_below.specs.declared.format_description.modifier.SubsecondDigits.{SubsecondDigits}
use Rattle.time_below.specs.declared.format_description.modifier.SubsecondDigits.TheVariants as digits
use Rattle.time_below.specs.Tree.{Tree, Trees, byte_literal, text_literal, of_component, all_of, first_of, nothing, end}
use Rattle.time_below.specs.Tree.{more}

-- all components that are not named are of the date
abbrev pub group_of : Component → Group
group_of (component.Hour12 m) = group.Time
group_of (component.Hour24 m) = group.Time
group_of (component.Minute m) = group.Time
group_of (component.Period m) = group.Time
group_of (component.Second m) = group.Time
group_of (component.Subsecond m) = group.Time
group_of (component.Hour m) = group.Time
group_of (component.OffsetHour m) = group.Offset
group_of (component.OffsetMinute m) = group.Offset
group_of (component.OffsetSecond m) = group.Offset
group_of (component.UnixTimestampSecond m) = group.Timestamp
group_of (component.UnixTimestampMillisecond m) = group.Timestamp
group_of (component.UnixTimestamp m) = group.Timestamp
group_of (component.Ignore m) = group.None
group_of (component.End m) = group.None
group_of c = group.Date

-- the decimals that are chosen, or all nine
abbrev pub subsecond_width : SubsecondDigits → ℕ
subsecond_width digits.One = 1
subsecond_width digits.Two = 2
subsecond_width digits.Three = 3
subsecond_width digits.Four = 4
subsecond_width digits.Five = 5
subsecond_width digits.Six = 6
subsecond_width digits.Seven = 7
subsecond_width digits.Eight = 8
subsecond_width digits.Nine = 9
subsecond_width digits.OneOrMore = 9

-- the width of a deprecated component

abbrev pub month_width : MonthRepr → ℕ
month_width month.Numerical = 2
month_width month.Long = 9
month_width month.Short = 3

abbrev pub weekday_width : WeekdayRepr → ℕ
weekday_width weekday.Short = 3
weekday_width weekday.Long = 9
weekday_width weekday.Sunday = 1
weekday_width weekday.Monday = 1

abbrev pub unix_timestamp_width : UnixTimestampPrecision → ℕ
unix_timestamp_width precision.Second = 15
unix_timestamp_width precision.Millisecond = 18

-- the width of a year for any range, so that a year of the standard range does not reach it
abbrev pub year_width : YearRepr → ℕ
year_width year.Full = 7
year_width year.Century = 5
year_width year.LastTwo = 2

-- the longest text of a component, which some value reaches for any choices; deprecated components are last
abbrev pub component_width : Component → ℕ
component_width (component.Day m) = 2
component_width (component.MonthShort m) = 3
component_width (component.MonthLong m) = 9
component_width (component.MonthNumerical m) = 2
component_width (component.Ordinal m) = 3
component_width (component.WeekdayShort m) = 3
component_width (component.WeekdayLong m) = 9
component_width (component.WeekdaySunday m) = 1
component_width (component.WeekdayMonday m) = 1
component_width (component.WeekNumberIso m) = 2
component_width (component.WeekNumberSunday m) = 2
component_width (component.WeekNumberMonday m) = 2
component_width (component.CalendarYearFullExtendedRange m) = 7
component_width (component.CalendarYearFullStandardRange m) = 5
component_width (component.CalendarYearCenturyExtendedRange m) = 5
component_width (component.CalendarYearCenturyStandardRange m) = 3
component_width (component.CalendarYearLastTwo m) = 2
component_width (component.IsoYearFullExtendedRange m) = 7
component_width (component.IsoYearFullStandardRange m) = 5
component_width (component.IsoYearCenturyExtendedRange m) = 5
component_width (component.IsoYearCenturyStandardRange m) = 3
component_width (component.IsoYearLastTwo m) = 2
component_width (component.Hour12 m) = 2
component_width (component.Hour24 m) = 2
component_width (component.Minute m) = 2
component_width (component.Period m) = 2
component_width (component.Second m) = 2
component_width (component.Subsecond m) = subsecond_width m.digits
component_width (component.OffsetHour m) = 3
component_width (component.OffsetMinute m) = 2
component_width (component.OffsetSecond m) = 2
component_width (component.UnixTimestampSecond m) = 15
component_width (component.UnixTimestampMillisecond m) = 18
component_width (component.Ignore m) = 0
component_width (component.End m) = 0
component_width (component.Month m) = month_width m.repr
component_width (component.Weekday m) = weekday_width m.repr
component_width (component.WeekNumber m) = 2
component_width (component.Hour m) = 2
component_width (component.UnixTimestamp m) = unix_timestamp_width m.precision
component_width (component.Year m) = year_width m.repr

-- a list has the sum of its items, a first its first item alone; no bound stops the sum
abbrev mutual
  pub tree_width : Tree → ℕ
  tree_width (byte_literal bytes) = length bytes
  tree_width (text_literal text) = length text
  tree_width (of_component c) = component_width c
  tree_width (all_of ts) = trees_width ts
  tree_width (first_of end) = 0
  tree_width (first_of (more t ts)) = tree_width t
  tree_width nothing = 0

  pub trees_width : Trees → ℕ
  trees_width end = 0
  trees_width (more t ts) = tree_width t + trees_width ts

-- no byte literal is among what the width counts
abbrev mutual
  pub is_guaranteed_text : Tree → Bool
  is_guaranteed_text (byte_literal bytes) = false
  is_guaranteed_text (text_literal text) = true
  is_guaranteed_text (of_component c) = true
  is_guaranteed_text (all_of ts) = are_guaranteed_text ts
  is_guaranteed_text (first_of end) = true
  is_guaranteed_text (first_of (more t ts)) = is_guaranteed_text t
  is_guaranteed_text nothing = true

  pub are_guaranteed_text : Trees → Bool
  are_guaranteed_text end = true
  are_guaranteed_text (more t ts) = is_guaranteed_text t && are_guaranteed_text ts
