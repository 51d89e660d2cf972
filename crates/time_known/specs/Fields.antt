-- What the fields of the code show of a value.
use Rattle.std.specs.Prelude.{ℕ, pos, unsigned_abs}
use Rattle.time_known.specs.Days.{month_and_day}
use Rattle.time_known.specs.Values.{DateFacts, Offset, TimeOfDay}
use Rattle.time_known.specs.declared.fields.Fields.{Fields}

-- a date of which no fact is known
abbrev no_date : DateFacts
no_date = record {
  year = pos 0;
  month = 0;
  day = 0;
  ordinal = 0;
  weekday = 0;
  iso_year = pos 0;
  iso_week = 0;
  monday_based_week = 0;
  sunday_based_week = 0;
}

-- a date by its year, its month and its day alone
abbrev pub by_month_and_day : ℕ → ℕ → ℕ → DateFacts
by_month_and_day year month day = record no_date { year = pos year; month = month; day = day }

-- a date, a time of day and an offset
pub record Shown : Type 0 where
  pub date : DateFacts
  pub time : TimeOfDay
  pub offset : Offset

abbrev pub shown : Fields → Shown
shown f = record {
  date = by_month_and_day f.year (month_and_day f.date).month (month_and_day f.date).day;
  time = f.time;
  offset = f.offset;
}

-- the date on a weekday, in days from Monday
abbrev pub on_weekday : ℕ → Fields → DateFacts
on_weekday weekday f = record (shown f).date { weekday = weekday }

-- what the fields of a value show
abbrev pub fields : DateFacts → TimeOfDay → Offset → Shown
fields d t o = record { date = by_month_and_day (unsigned_abs d.year) d.month d.day; time = t; offset = o }
