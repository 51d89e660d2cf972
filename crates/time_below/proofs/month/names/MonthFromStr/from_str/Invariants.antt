-- None of the months before has the name.
use Rattle.std.proofs.Common.{◌≡◌, ◌<◌, ◌+◌}
use Rattle.time_below.specs.Month.{month_number}
use Rattle.time_below.specs.Names.{month_name}
use Rattle.time_below.specs.declared.month.Month.{Month}
use Rattle.time_below.proofs.month.names.MonthFromStr.from_str.Given as goal

abbrev pub invariant-loop-months_before : goal.invariant-loop-months_before
invariant-loop-months_before l =
    (other : Month) → month_number other < l.months_before + 1 → ¬ (month_name (month_number other) ≡ l.text)
