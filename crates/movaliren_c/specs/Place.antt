-- Where a text is none of its format, as C sees it.
use Rattle.std.specs.Prelude.{ℕ, ◌+◌, Bool, if◌then◌else◌}
use Rattle.movaliren_c.specs.declared.read.place.Coming.{Coming}
use Rattle.movaliren_c.specs.declared.read.place.ReadError.{ReadError}
use Rattle.time_below.specs.Weekday.{days_from_monday}
use Rattle.time_read.specs.declared.component_name.ComponentName.{ComponentName}
use Rattle.time_read.specs.declared.component_name.ComponentName.TheVariants as component
use Rattle.time_read.specs.declared.fault.Expected.{Expected}
use Rattle.time_read.specs.declared.fault.Expected.TheVariants as expected
use Rattle.time_read.specs.declared.fault.Mismatch.TheVariants as mismatch
use Rattle.time_read.specs.declared.fault.NotRead.{NotRead}
use Rattle.time_read.specs.declared.fault.Profile.{Profile}
use Rattle.time_read.specs.declared.fault.Profile.TheVariants as profile
use Rattle.time_read.specs.declared.fault.MailPart.{MailPart}
use Rattle.time_read.specs.declared.fault.MailPart.TheVariants as part

abbrev pub flag_of : Bool → ℕ
flag_of b = if b then 1 else 0

-- whether small letters could have come too
abbrev pub lenient_flag : Profile → ℕ
lenient_flag profile.Strict = 0
lenient_flag profile.Lenient = 1

-- the number of what could have come, two numbers of it, and whether small letters could have come too
abbrev pub of_numbers : ℕ → ℕ → ℕ → ℕ → Coming
of_numbers n first last small = record { expected = n; first = first; last = last; is_lenient = small }

-- A part of mail that could have come. Of a weekday 1 for Monday to 7 for Sunday.
abbrev pub numbers_of_mail : MailPart → Coming
numbers_of_mail (part.Weekday w) = of_numbers 12 (days_from_monday w + 1) 0 0
numbers_of_mail part.WeekdayOrDay = of_numbers 13 0 0 1
numbers_of_mail part.Day = of_numbers 14 0 0 0
numbers_of_mail part.Month = of_numbers 15 0 0 1
numbers_of_mail part.Year = of_numbers 16 0 0 0
numbers_of_mail part.DayOfMonth = of_numbers 17 0 0 0
numbers_of_mail part.Hour = of_numbers 18 0 0 0
numbers_of_mail part.Minute = of_numbers 19 0 0 0
numbers_of_mail part.Second = of_numbers 20 0 0 0
numbers_of_mail part.Zone = of_numbers 21 0 0 1
numbers_of_mail part.Space = of_numbers 22 0 0 0
numbers_of_mail part.CommentEnd = of_numbers 23 0 0 0

-- the number of a component's name
abbrev pub number_of_component : ComponentName → ℕ
number_of_component component.Day = 0
number_of_component component.MonthShort = 1
number_of_component component.MonthLong = 2
number_of_component component.MonthNumerical = 3
number_of_component component.Ordinal = 4
number_of_component component.WeekdayShort = 5
number_of_component component.WeekdayLong = 6
number_of_component component.WeekdaySunday = 7
number_of_component component.WeekdayMonday = 8
number_of_component component.WeekNumberIso = 9
number_of_component component.WeekNumberSunday = 10
number_of_component component.WeekNumberMonday = 11
number_of_component component.CalendarYearFull = 12
number_of_component component.CalendarYearCentury = 13
number_of_component component.CalendarYearLastTwo = 14
number_of_component component.IsoYearFull = 15
number_of_component component.IsoYearCentury = 16
number_of_component component.IsoYearLastTwo = 17
number_of_component component.Hour12 = 18
number_of_component component.Hour24 = 19
number_of_component component.Minute = 20
number_of_component component.Period = 21
number_of_component component.Second = 22
number_of_component component.Subsecond = 23
number_of_component component.OffsetHour = 24
number_of_component component.OffsetMinute = 25
number_of_component component.OffsetSecond = 26
number_of_component component.UnixTimestampSecond = 27
number_of_component component.UnixTimestampMillisecond = 28
number_of_component component.End = 29
number_of_component component.Ignore = 30

-- what could have come: its number, and the first and the last of its digits, or its byte twice, or the number of its
-- component
abbrev pub numbers_of : Expected → Coming
numbers_of (expected.Digit first last) = of_numbers 1 first last 0
numbers_of (expected.Byte b) = of_numbers 2 b b 0
numbers_of (expected.Letter letter p) = of_numbers 3 letter letter (lenient_flag p)
numbers_of (expected.Offset p) = of_numbers 4 0 0 (lenient_flag p)
numbers_of (expected.PointOrOffset p) = of_numbers 5 0 0 (lenient_flag p)
numbers_of (expected.DigitOrOffset p) = of_numbers 6 0 0 (lenient_flag p)
numbers_of expected.End = of_numbers 7 0 0 0
numbers_of expected.Sign = of_numbers 8 0 0 0
numbers_of (expected.Plan (mismatch.Component c)) = of_numbers 24 (number_of_component c) 0 0
numbers_of (expected.Plan (mismatch.NoValue c)) = of_numbers 25 (number_of_component c) 0 0
numbers_of (expected.Plan mismatch.Otherwise) = of_numbers 26 0 0 0
numbers_of (expected.Mail part) = numbers_of_mail part

-- this could have come after so many bytes
abbrev pub place_at : ℕ → Bool → Coming → ReadError
place_at at is_second_60 c = record {
  at = at;
  expected = c.expected;
  first = c.first;
  last = c.last;
  is_lenient = c.is_lenient;
  is_second_60 = flag_of is_second_60;
}

abbrev pub place_of : NotRead → ReadError
place_of e = place_at e.at e.is_second_60 (numbers_of e.expected)
