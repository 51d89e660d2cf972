-- What a description gives for the components of a value.
use Rattle.std.specs.Prelude.{Bool, true, ◌%◌, [], is_some, pos, int_lt, unsigned_abs}
use Rattle.std.specs.Prelude.{if◌then◌else◌}
use Rattle.time_below.specs.Conversion.{current_component}
use Rattle.time_below.specs.declared.format_description.component.Component.{Component}
use Rattle.time_below.specs.declared.format_description.component.Component.TheVariants as component
use Rattle.time_below.specs.declared.format_description.component.Group.{Group}
use Rattle.time_below.specs.declared.format_description.component.Group.TheVariants as group
use Rattle.time_below.specs.Facts.{Facts, the_date, the_time, the_offset, the_moment}
use Rattle.time_below.specs.Width.{group_of}
use Rattle.time_below.specs.Moment.{milliseconds}
use Rattle.time_below.specs.Offset.{is_negative}
use Rattle.time_below.specs.TimeOfDay.{period_of}
use Rattle.time_below.specs.Tree.{Tree, Trees, byte_literal, text_literal, of_component, all_of, first_of, nothing, end}
use Rattle.time_below.specs.Tree.{more}
use Rattle.time_below.specs.Calendar.{from_sunday}
use Rattle.time_fmt.specs.Kind as kind
use Rattle.time_fmt.specs.Kind.{Kind, kind_outcome, extended_year, standard_year, century_of, extended_century}
use Rattle.time_fmt.specs.Kind.{standard_century, offset_hour, timestamp}
use Rattle.time_fmt.specs.Outcome.{Outcome, done, refused, join, insufficient}
use Rattle.time_fmt.specs.Text.{hour_12}

-- whether a value that has these parts has the part of such components
abbrev pub is_supplied : Bool → Bool → Bool → Bool → Group → Bool
is_supplied date time offset moment group.Date = date
is_supplied date time offset moment group.Time = time
is_supplied date time offset moment group.Offset = offset
is_supplied date time offset moment group.Timestamp = moment
is_supplied date time offset moment group.None = true

-- whether a value supplies a group
abbrev pub has_group : Group → Facts → Bool
has_group g f = is_supplied (is_some f.date) (is_some f.time) (is_some f.offset) (is_some f.moment) g

-- what a component that is not deprecated shows of a value that supplies its group
abbrev pub kind_of : Component → Facts → Kind
kind_of (component.Day m) f = kind.number m.padding 2 (the_date f).day
kind_of (component.MonthShort m) f = kind.short (kind.month (the_date f).month)
kind_of (component.MonthLong m) f = kind.month (the_date f).month
kind_of (component.MonthNumerical m) f = kind.number m.padding 2 (the_date f).month
kind_of (component.Ordinal m) f = kind.number m.padding 3 (the_date f).ordinal
kind_of (component.WeekdayShort m) f = kind.short (kind.weekday (the_date f).weekday)
kind_of (component.WeekdayLong m) f = kind.weekday (the_date f).weekday
kind_of (component.WeekdaySunday m) f = kind.digit m.one_indexed (from_sunday (the_date f).weekday)
kind_of (component.WeekdayMonday m) f = kind.digit m.one_indexed (the_date f).weekday
kind_of (component.WeekNumberIso m) f = kind.number m.padding 2 (the_date f).iso_week
kind_of (component.WeekNumberSunday m) f = kind.number m.padding 2 (the_date f).sunday_based_week
kind_of (component.WeekNumberMonday m) f = kind.number m.padding 2 (the_date f).monday_based_week
kind_of (component.CalendarYearFullExtendedRange m) f = extended_year m.padding m.sign_is_mandatory (the_date f).year
kind_of (component.CalendarYearFullStandardRange m) f = standard_year m.padding m.sign_is_mandatory (the_date f).year
kind_of (component.CalendarYearCenturyExtendedRange m) f =
    extended_century m.padding m.sign_is_mandatory (int_lt (the_date f).year (pos 0)) (century_of (the_date f).year)
kind_of (component.CalendarYearCenturyStandardRange m) f =
    standard_century m.padding m.sign_is_mandatory (int_lt (the_date f).year (pos 0)) (century_of (the_date f).year)
kind_of (component.CalendarYearLastTwo m) f = kind.number m.padding 2 (unsigned_abs (the_date f).year % 100)
kind_of (component.IsoYearFullExtendedRange m) f = extended_year m.padding m.sign_is_mandatory (the_date f).iso_year
kind_of (component.IsoYearFullStandardRange m) f = standard_year m.padding m.sign_is_mandatory (the_date f).iso_year
kind_of (component.IsoYearCenturyExtendedRange m) f =
    extended_century m.padding m.sign_is_mandatory (int_lt (the_date f).iso_year (pos 0)) (century_of (the_date f).iso_year)
kind_of (component.IsoYearCenturyStandardRange m) f =
    standard_century m.padding m.sign_is_mandatory (int_lt (the_date f).iso_year (pos 0)) (century_of (the_date f).iso_year)
kind_of (component.IsoYearLastTwo m) f = kind.number m.padding 2 (unsigned_abs (the_date f).iso_year % 100)
kind_of (component.Hour12 m) f = kind.number m.padding 2 (hour_12 (the_time f).hour)
kind_of (component.Hour24 m) f = kind.number m.padding 2 (the_time f).hour
kind_of (component.Minute m) f = kind.number m.padding 2 (the_time f).minute
kind_of (component.Period m) f = kind.half_day (period_of (the_time f)) m.is_uppercase
kind_of (component.Second m) f = kind.number m.padding 2 (the_time f).second
kind_of (component.Subsecond m) f = kind.decimals m.digits (the_time f).nanosecond
kind_of (component.OffsetHour m) f =
    offset_hour m.padding m.sign_is_mandatory (is_negative (the_offset f)) (the_offset f).hours
kind_of (component.OffsetMinute m) f = kind.number m.padding 2 (unsigned_abs (the_offset f).minutes)
kind_of (component.OffsetSecond m) f = kind.number m.padding 2 (unsigned_abs (the_offset f).seconds)
kind_of (component.UnixTimestampSecond m) f = timestamp m.sign_is_mandatory (the_moment f).seconds
kind_of (component.UnixTimestampMillisecond m) f = timestamp m.sign_is_mandatory (milliseconds (the_moment f))
kind_of c f = kind.empty

-- its outcome
abbrev pub supplied_outcome : Component → Facts → Outcome
supplied_outcome c f = kind_outcome (kind_of c f)

-- the outcome of a component: a value without its group is refused
abbrev pub current_outcome : Component → Facts → Outcome
current_outcome c f = if has_group (group_of c) f then supplied_outcome c f else refused insufficient

-- a deprecated component has the outcome of the current one
abbrev pub component_outcome : Component → Facts → Outcome
component_outcome c f = current_outcome (current_component c) f

-- a list is its items in order, a first its first item alone
abbrev mutual
  pub tree_outcome : Tree → Facts → Outcome
  tree_outcome (byte_literal bytes) f = done bytes
  tree_outcome (text_literal text) f = done text
  tree_outcome (of_component c) f = component_outcome c f
  tree_outcome (all_of ts) f = trees_outcome ts f
  tree_outcome (first_of end) f = done []
  tree_outcome (first_of (more t ts)) f = tree_outcome t f
  tree_outcome nothing f = done []

  pub trees_outcome : Trees → Facts → Outcome
  trees_outcome end f = done []
  trees_outcome (more t ts) f = join (tree_outcome t f) (trees_outcome ts f)
