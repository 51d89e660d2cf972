-- What the values of each type supply to a description.
use Rattle.std.specs.Prelude.{ℕ, ℤ, pos, Option, Some, None}
use Rattle.time_below.specs.Calendar.{OrdinalDate, month_of, day_of, weekday_of, iso_year_of, iso_week_of}
use Rattle.time_below.specs.Calendar.{monday_based_week_of, sunday_based_week_of}
use Rattle.time_below.specs.TimeOfDay.{TimeOfDay}
use Rattle.time_below.specs.Offset.{Offset, utc}
use Rattle.time_below.specs.Moment.{Moment, DateAndTime, OffsetDateAndTime, unix_seconds, local_unix_seconds, utc_date}
use Rattle.time_below.specs.Moment.{utc_time}

-- the components of a date: the weekday as days from Monday, the weeks of a year of each kind
pub record DateFacts : Type 0 where
  pub year : ℤ
  pub month : ℕ
  pub day : ℕ
  pub ordinal : ℕ
  pub weekday : ℕ
  pub iso_year : ℤ
  pub iso_week : ℕ
  pub monday_based_week : ℕ
  pub sunday_based_week : ℕ

-- the components of a day
abbrev pub date_facts : OrdinalDate → DateFacts
date_facts d = record {
  year = d.year;
  month = month_of d;
  day = day_of d;
  ordinal = d.ordinal;
  weekday = weekday_of d;
  iso_year = iso_year_of d;
  iso_week = iso_week_of d;
  monday_based_week = monday_based_week_of d;
  sunday_based_week = sunday_based_week_of d;
}

-- four groups of components, each present or absent
pub record Facts : Type 0 where
  pub date : Option DateFacts
  pub time : Option TimeOfDay
  pub offset : Option Offset
  pub moment : Option Moment

-- a date alone
abbrev pub facts_of_date : OrdinalDate → Facts
facts_of_date d = record { date = Some (date_facts d); time = None; offset = None; moment = None }

-- a time of day alone
abbrev pub facts_of_time : TimeOfDay → Facts
facts_of_time t = record { date = None; time = Some t; offset = None; moment = None }

-- a date and a time of no place in particular
abbrev pub facts_of_plain_date_time : DateAndTime → Facts
facts_of_plain_date_time v =
    record { date = Some (date_facts v.date); time = Some v.time; offset = None; moment = None }

-- an offset alone
abbrev pub facts_of_offset : Offset → Facts
facts_of_offset o = record { date = None; time = None; offset = Some o; moment = None }

-- a date and a time in UTC: the moment counts the nanosecond of the time forward from the seconds
abbrev pub facts_of_utc_date_time : DateAndTime → Facts
facts_of_utc_date_time v =
    record {
      date = Some (date_facts v.date);
      time = Some v.time;
      offset = Some utc;
      moment = Some (record { seconds = unix_seconds v; nanosecond = v.time.nanosecond });
    }

-- the local date and time as given, their offset and the moment
abbrev pub facts_of_offset_date_time : OffsetDateAndTime → Facts
facts_of_offset_date_time v =
    record {
      date = Some (date_facts v.date);
      time = Some v.time;
      offset = Some v.offset;
      moment = Some (record { seconds = local_unix_seconds v; nanosecond = v.time.nanosecond });
    }

-- a moment, with its date and time in UTC
abbrev pub facts_of_timestamp : Moment → Facts
facts_of_timestamp m =
    record {
      date = Some (date_facts (utc_date m.seconds));
      time = Some (utc_time m);
      offset = Some utc;
      moment = Some m;
    }

-- a group that is there, or the other where it is not
abbrev pub group_or : {G : Type 0} → G → Option G → G
group_or other None = other
group_or other (Some group) = group

-- the date of a value that has one, or else the first day of the year 0
abbrev pub the_date : Facts → DateFacts
the_date f = group_or (date_facts (record { year = pos 0; ordinal = 1 })) f.date

-- its time of day
abbrev pub the_time : Facts → TimeOfDay
the_time f = group_or (record { hour = 0; minute = 0; second = 0; nanosecond = 0 }) f.time

-- its offset
abbrev pub the_offset : Facts → Offset
the_offset f = group_or utc f.offset

-- its moment
abbrev pub the_moment : Facts → Moment
the_moment f = group_or (record { seconds = pos 0; nanosecond = 0 }) f.moment
