-- The names of values and their facts that most definitions cite, passed on from one place. Declares nothing.
pub use Rattle.time_below.specs.Calendar.{OrdinalDate, IsDate}
pub use Rattle.time_below.specs.Facts.{Facts, DateFacts, date_facts, the_date, the_time, the_offset, facts_of_offset_date_time}
pub use Rattle.time_below.specs.Moment.{OffsetDateAndTime}
pub use Rattle.time_below.specs.Offset.{Offset, IsOffset, utc}
pub use Rattle.time_below.specs.TimeOfDay.{TimeOfDay, IsTimeOfDay}
