-- Two values, one of which fills the width of each component, for any choices.
use Rattle.std.specs.Prelude.{◌≡◌, ◌⊎◌, true, pos, neg_ℤ, length}
use Rattle.time_below.specs.Calendar.{date_of}
use Rattle.time_below.specs.Conversion.{is_current}
use Rattle.time_below.specs.Facts.{facts_of_offset_date_time}
use Rattle.time_below.specs.Moment.{OffsetDateAndTime}
use Rattle.time_below.specs.Offset.{Offset}
use Rattle.time_below.specs.TimeOfDay.{TimeOfDay}
use Rattle.time_below.specs.Width.{component_width}
use Rattle.time_below.specs.declared.format_description.component.Component.{Component}
use Rattle.time_fmt.specs.Description.{component_outcome}

abbrev pub longest_time : TimeOfDay
longest_time = record { hour = 12; minute = 34; second = 56; nanosecond = 123_456_789 }

abbrev pub longest_offset : Offset
longest_offset = record { hours = neg_ℤ (pos 23); minutes = neg_ℤ (pos 45); seconds = neg_ℤ (pos 30) }

-- -999999-09-12, a Wednesday, 12:34:56.123456789 -23:45:30: the longest of years, names and timestamps
abbrev pub longest_extended : OffsetDateAndTime
longest_extended = record {
  date = date_of (neg_ℤ (pos 999_999)) 9 12;
  time = longest_time;
  offset = longest_offset;
}

-- -9999-10-10 at the same time of day and offset: the longest of years that a standard range has, and of months
abbrev pub longest_standard : OffsetDateAndTime
longest_standard = record {
  date = date_of (neg_ℤ (pos 9_999)) 10 10;
  time = longest_time;
  offset = longest_offset;
}

-- the text of the component on this value has as many bytes as the table says
abbrev pub Fills : Component → OffsetDateAndTime → Type 0
Fills c value = length (component_outcome c (facts_of_offset_date_time value)).bytes ≡ component_width c

-- one of the two reaches the width of a component that is not deprecated
abbrev pub ReachesWidth : Component → Type 0
ReachesWidth c = is_current c ≡ true → Fills c longest_extended ⊎ Fills c longest_standard
