-- What a call of a provider keeps and shows: the state agrees with the value, and the group of the method is real.
use Rattle.std.specs.Prelude.{◌≡◌}
use Rattle.time_below.specs.Calendar.{OrdinalDate, IsDate}
use Rattle.time_below.specs.Facts.{Facts, DateFacts, date_facts, the_date, the_time, the_offset, the_moment}
use Rattle.time_below.specs.Moment.{IsNearMoment}
use Rattle.time_below.specs.Offset.{IsOffset}
use Rattle.time_below.specs.TimeOfDay.{TimeOfDay, IsTimeOfDay}

-- the date with this year and this day of the year
abbrev pub date_in : DateFacts → OrdinalDate
date_in f = record { year = f.year; ordinal = f.ordinal }

-- the calendar has that date, and these are its components
pub record AreFactsOfDate (f : DateFacts) : Type 0 where
  pub date : IsDate (date_in f)
  pub components : f ≡ date_facts (date_in f)

-- a state agrees with a value of these facts, whose date is one of the calendar
pub record AgreesOnDate (Agrees : Type 0) (f : Facts) : Type 0 where
  pub agrees : Agrees
  pub real : AreFactsOfDate (the_date f)

-- the state agrees with the value, and the time of day is real
pub record AgreesOnTime (Agrees : Type 0) (f : Facts) : Type 0 where
  pub agrees : Agrees
  pub real : IsTimeOfDay (the_time f)

-- the state agrees with the value, and the offset is real
pub record AgreesOnOffset (Agrees : Type 0) (f : Facts) : Type 0 where
  pub agrees : Agrees
  pub real : IsOffset (the_offset f)

-- the state agrees with the value, and the moment is real
pub record AgreesOnMoment (Agrees : Type 0) (f : Facts) : Type 0 where
  pub agrees : Agrees
  pub real : IsNearMoment (the_moment f)

-- the date, the time and the offset of a value that has all three are real
pub record AreReal (f : Facts) : Type 0 where
  pub date : AreFactsOfDate (the_date f)
  pub time : IsTimeOfDay (the_time f)
  pub offset : IsOffset (the_offset f)

-- the time of day that stands where there is none
abbrev pub midnight : TimeOfDay
midnight = record { hour = 0; minute = 0; second = 0; nanosecond = 0 }
