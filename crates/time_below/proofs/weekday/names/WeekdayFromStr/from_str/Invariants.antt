-- None of the days before has the name.
use Rattle.std.proofs.Common.{◌≡◌, ◌<◌}
use Rattle.time_below.specs.Names.{weekday_name}
use Rattle.time_below.specs.Weekday.{days_from_monday}
use Rattle.time_below.specs.declared.weekday.Weekday.{Weekday}
use Rattle.time_below.proofs.weekday.names.WeekdayFromStr.from_str.Given as goal

abbrev pub invariant-loop-days : goal.invariant-loop-days
invariant-loop-days l =
    (other : Weekday) → days_from_monday other < l.days → ¬ (weekday_name (days_from_monday other) ≡ l.text)
