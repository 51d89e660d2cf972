-- Times of log lines: date-time of RFC 3339, section 5.6, with so many decimals in each text.
use Rattle.std.specs.Prelude.{ℕ, List, Option, Some, None, unsigned_abs}
use Rattle.time_below.specs.Moment.{OffsetDateAndTime}
use Rattle.time_fmt.specs.Outcome.{Outcome}
use Rattle.time_known.specs.Accepted.{checked_text}
use Rattle.time_known.specs.Config.{Choices, default_choices}
use Rattle.time_known.specs.Iso8601.{iso8601_of}
use Rattle.time_known.specs.declared.iso8601.config.TimePrecision.TheVariants as precision
use Rattle.log_time.specs.declared.log_time.Decimals.{Decimals}
use Rattle.log_time.specs.declared.log_time.Decimals.TheVariants.{Seconds, Milliseconds, Microseconds, Nanoseconds}

-- how many decimals a text has, if any
abbrev pub digits_of : Decimals → Option ℕ
digits_of Seconds = None
digits_of Milliseconds = Some 3
digits_of Microseconds = Some 6
digits_of Nanoseconds = Some 9

-- the default configuration of ISO 8601 with these decimals of the second
abbrev pub log_choices : Decimals → Choices
log_choices d = record default_choices { time_precision = precision.Second (digits_of d) }

-- the text of a local date and time by it
abbrev pub log_text : Decimals → OffsetDateAndTime → List ℕ
log_text d v = (iso8601_of (log_choices d) v).bytes

-- the text, if the year is from 0 to 9,999, and the offset has at most 23 hours and no seconds: RFC 3339 has no other
abbrev pub log_outcome : Decimals → OffsetDateAndTime → Outcome
log_outcome d v =
    checked_text 0 23 v.date.year (unsigned_abs v.offset.hours) (unsigned_abs v.offset.seconds) (log_text d v)
