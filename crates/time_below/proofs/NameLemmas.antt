-- Months and weekdays by their numbers.
use Rattle.std.proofs.Common.{◌<◌, arith}
use Rattle.time_below.specs.Month.{month_number}
use Rattle.time_below.specs.Weekday.{days_from_monday}
use Rattle.time_below.specs.declared.month.Month.{Month}
use Rattle.time_below.specs.declared.weekday.Weekday.{Weekday}

pub month_number-less : (m : Month) → month_number m < 13
month_number-less m = grind arith

pub days_from_monday-less : (w : Weekday) → days_from_monday w < 7
days_from_monday-less w = grind arith

pub ruleset numbers_of_names = (month_number-less, days_from_monday-less)
